-- A descriptor for which there is room may be declared
use Rattle.trb.specs.declared.profile.Profile.TheVariants.{Basic}
use Rattle.cycle_ring.proofs.Words.{common_steps, rules, ◌≡◌, ◌<◌, ◌≤◌, ◌&&◌, ℕ, not, Bool, true, false, List, length, All, nat_le, nat_lt, Some, None, arith, list_any, or_parts, All-weaker, All-nil, All-cons, Block, BlockKind, Fault, BadDescriptor, RingKind, kind, is_link, is_transfer, is_command, is_left_out_command, fault_of, is_badly_formed, is_bad_descriptor, IsShape, RingView, has_no_room, place_count_pos, Progress, has_room, IsAllowed, IsEnqueuedSo, MayBeDeclared}

has_room_on_ring : (p : Progress) (v : RingView) (n : ℕ) → IsShape p.shape → p.retired ≤ p.enqueued → has_room p n ≡ true → IsEnqueuedSo p v → has_no_room p.shape v n ≡ false
unfolding has_no_room
has_room_on_ring p v n is_shape in_order room so = search (rules, place_count_pos, nat_le, nat_lt)

command_no_link : (k : BlockKind) → (not (is_command k) && not (is_left_out_command k)) ≡ false → is_link k ≡ false
command_no_link k h = search rules

transfer_no_link : (k : BlockKind) → not (is_transfer k) ≡ false → is_link k ≡ false
transfer_no_link k h = search rules

-- an empty list is no chain
some_blocks : (blocks : List Block) → is_badly_formed blocks ≡ false → 0 < length blocks
some_blocks blocks h = grind (arith, common_steps)

each_fails : (test : Block → Bool) (blocks : List Block) → list_any test blocks ≡ false → All (λ b. test b ≡ false) blocks
each_fails test blocks h = grind (arith, common_steps, All-nil, or_parts, All-cons)

good_descriptor : (ring : RingKind) (blocks : List Block) → is_bad_descriptor Basic ring blocks ≡ false → (0 < length blocks) × All (λ b. is_link (kind b) ≡ false) blocks
good_descriptor ring blocks h = search (rules, or_parts, some_blocks, All-weaker, command_no_link, each_fails, transfer_no_link)

no_fault : (ring : RingKind) (blocks : List Block) → fault_of ring blocks ≡ None → is_bad_descriptor Basic ring blocks ≡ false
no_fault ring blocks h = search (rules, is_bad_descriptor, Fault, Some, BadDescriptor, None)

pub may_be_declared : (p : Progress) (blocks : List Block) → IsShape p.shape → p.retired ≤ p.enqueued → IsAllowed p blocks → MayBeDeclared p blocks
may_be_declared p blocks is_shape in_order allowed v so = search (rules, good_descriptor, no_fault, has_room_on_ring)
