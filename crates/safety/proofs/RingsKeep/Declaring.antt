-- A declaration that breaks no rule is one that its ring allows
use Rattle.safety.proofs.Words.{profile_of, Profile, [], ◌≡◌, ◌<◌, ◌∷◌, ℕ, not, true, false, List, length, All, arith, sym, or_parts, not-false, false≢true, Block, BlockKind, RingKind, kind, is_link, is_transfer, is_badly_formed, is_bad_descriptor, MayDeclare, Header, Sub, ring_with, shape_of, Known, is_driver_ring, declaration_tests, lenient_tests, lenient}
use Rattle.safety.proofs.RingsKeep.TestsPassed.{AllFail, tests_fail, each_fails}

transfer_no_link : (k : BlockKind) → not (is_transfer k) ≡ false → is_link k ≡ false
transfer_no_link o h = grind (arith, false≢true)

-- an empty list is no chain
some_blocks : (blocks : List Block) → is_badly_formed blocks ≡ false → 0 < length blocks
some_blocks [] h = absurd (false≢true (sym h))
some_blocks (b ∷ rest) h = omega arith

good_descriptor : (profile : Profile) (ring : RingKind) (blocks : List Block) → is_bad_descriptor profile ring blocks ≡ false → (0 < length blocks) × All (λ b. is_link (kind b) ≡ false) blocks
good_descriptor profile ring blocks h = grind (arith, or_parts, some_blocks, each_fails, transfer_no_link, false≢true)

-- its ring is a command or transfer ring that has room for it
pub may_declare : (h : Header) (k : Known) (r : ℕ) (blocks : List Block) → lenient h k (Sub r blocks) ≡ [] →
    (is_driver_ring (ring_with h r) ≡ true) × MayDeclare (shape_of h r) (k.ring r) blocks
unfolding lenient_tests declaration_tests
may_declare h k r blocks clean = grind (arith, AllFail, tests_fail, good_descriptor, not-false, tests_fail h k (Sub r blocks) clean, good_descriptor (profile_of h.version) (shape_of h r).kind blocks (tests_fail h k (Sub r blocks) clean).1.1.0)
