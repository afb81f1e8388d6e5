-- The indexes of ranges find the same where leases of blocks end and begin
use Rattle.leases.proofs.UpperLaws.{◌≡◌, ◌<◌, ◌≤◌, ◌∷◌, ◌∙◌, ℕ, true, List, [], Some, map, nat_lt, arith, sym, subst, inl, inr, cases_Bool, nat_tests, Header, IsHeader, Ring, Known, Write, command_id, is_transfer_kind, learned, on_ring, open_leases, ring_with, length_from, Restores, Withdraws, without_end, Block, AreOpen, Lent, passed_on, with_begun, FindsRanges, RangeIndexes, restored, MovesRing, others_begin, some_end, begun_none, begun_twice, ◌+◌, max, floor_number, refl}
use Rattle.leases.proofs.RingLeases.LentFree.{Restoring, is_between, restored_lent, withdrawn_lent}
use Rattle.leases.proofs.RingLeases.MovingRings.{alone, at_end, first_restored, freed_given, freed_later, last_restored, opened_own, other, own_first, own_step, same_left}

pub blocks_begin : (h : Header) (x : RangeIndexes) (row r : ℕ) (ps : List ℕ) (ts : List Lent) → FindsRanges h ts x → FindsRanges h (with_begun row ts (map (Block r) ps)) x
blocks_begin h x row r [] ts found = rw (begun_none row ts) found
blocks_begin h x row r (p ∷ ps) ts found = rw (← begun_twice row ts (Block r p ∷ []) (map (Block r) ps))
    (blocks_begin h x row r ps (with_begun row ts (Block r p ∷ [])) (others_begin h x row (Block r p) ts (λ g y i. tt) found))

-- behind a descriptor that is withdrawn
pub found_withdrawn : (h : Header) → IsHeader h → (k : Known) (q : Ring) → ring_with h q.id ≡ Some q → is_transfer_kind q.shape.kind ≡ true → (ts : List Lent) → AreOpen h k ts → (row p : ℕ) (x : RangeIndexes) →
    FindsRanges h ts x → FindsRanges h (passed_on (open_leases h k) (open_leases h (on_ring h k q.id (Withdraws p))) row ts) x
found_withdrawn h headed k q found transfer ts opened row p x finds =
    let from = max p (floor_number (k.ring q.id)) in
    let to = p + length_from (k.ring q.id).lengths 0 p in
    rw (withdrawn_lent h headed k q found transfer ts opened row p from to refl refl) (some_end h x (is_between q.id from to) row ts finds)

-- behind a ring that is restored
pub found_restored : (h : Header) (k : Known) (ts : List Lent) (q : Ring) (ps : List ℕ) → Restoring h k ts q ps → (row : ℕ) (x : RangeIndexes) →
    FindsRanges h ts x → FindsRanges h (passed_on (open_leases h k) (open_leases h (on_ring h k q.id Restores)) row ts) x
found_restored h k ts q ps here row x finds = subst (λ (us : List Lent). FindsRanges h us x) (sym (restored_lent h k ts q ps here row)) (blocks_begin h x row q.id ps ts finds)

-- behind the giving of a Set TR Dequeue that moves a ring
pub found_moved : (h : Header) (k : Known) (ts : List Lent) (command : Ring) (p : ℕ) (q : Ring) (ps : List ℕ) (a w : ℕ) → MovesRing h k ts command p q ps a w → (row : ℕ) → row < without_end → (x : RangeIndexes) →
    FindsRanges h ts x → FindsRanges h (passed_on (open_leases h k) (open_leases h (learned h (restored h k (Write a w)) (Write a w))) row ts) x
found_moved h k ts command p q ps a w m row early x finds =
    let c : ℕ = command_id h in
    let step_now : Known = own_step h k ts command p q ps a w m in
    let us : List Lent = passed_on (open_leases h k) (open_leases h (alone h k ts command p q ps a w m)) row ts in
    let vs : List Lent = passed_on (open_leases h k) (open_leases h step_now) row ts in
    rw (← at_end h k ts command p q ps a w m row early) (elim (cases_Bool (nat_lt q.id c)) [
      | inl low ↦
          let less : q.id < c = grind (arith, nat_tests, low) in
          let restoring : Restoring h k ts q ps = record { headed = m.headed; found = m.found; transfer = m.transfer; freed_given = freed_given h k ts command p q ps a w m; positions = m.positions; opened = m.opened } in
          rw (← first_restored h k ts command p q ps a w m row early less) (others_begin h x row (Block c p) us (λ g y i. tt) (found_restored h k ts q ps restoring row x finds))
      | inr high ↦
          let most : c ≤ q.id = grind (arith, nat_tests, high) in
          let less : c < q.id = omega (arith, most, other h k ts command p q ps a w m) in
          let restoring : Restoring h step_now vs q ps =
          assumption (freed_later h k ts command p q ps a w m, m.positions ∙ sym (same_left h k ts command p q ps a w m), opened_own h k ts command p q ps a w m row early) in
          rw (← last_restored h k ts command p q ps a w m row early less) (found_restored h step_now vs q ps restoring row x
          (rw (← own_first h k ts command p q ps a w m row early) (others_begin h x row (Block c p) ts (λ g y i. tt) finds)))
    ])
