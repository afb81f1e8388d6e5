-- What is kept of single rings
use Rattle.replayer.proofs.Words.{Bool, ◌&&◌, endpoint, has_isoch, is_of_service, is_stopping, counted_code, ltb-true, named_if_taken, transfer_facts, stopping_taken, StopsByCommand, [], Read, Block, TransferEvent, kind, code, slot, is_transfer_event, lenient, event_facts, shape_of, nat_tests, inl, inr, arith, ◌≡◌, ℕ, ◌∙◌, true, List, Some, None, ap, sym, subst, ◌==◌, is_some, position, slice_get, eqb-true, false≢true, same_Some, floor_number, Ring, Header, IsHeader, command_id, command_ring, is_transfer_kind, ring_with, RingRecord, FollowsRing, Known, next_command, FollowsRings, among_at, find_some, ring_found, DriverKeeps, IsTransferRing, none_has_256, command_is_ring, next_is, found_at, none_found, driven, command_id_is, ceiling}
unfoldable use Rattle.ring_knowledge.specs.Rings.{code_told}
unfoldable use Rattle.ownership_rules.specs.Events.{may_be_taken}

counted_of_service : (isoch : Bool) (c : ℕ) → is_of_service c ≡ true → is_stopping (counted_code isoch c) ≡ true → ⊥
counted_of_service isoch c service stopping = grind (arith, nat_tests)

-- an event of the service of an endpoint tells of no stop
no_stop_of_service : (h : Header) (k : Known) (b : Block) → is_of_service (code b) ≡ true → is_stopping (code_told h k b) ≡ true → ⊥
unfolding code_told
no_stop_of_service h k b = counted_of_service (has_isoch h.version && k.isochronous (slot b) (endpoint b)) (code b)

module _ (h : Header) (headed : IsHeader h) where
  -- ---- the command ring

  -- there is one where the controller may have come to the next command
  pub some_command : (k : Known) → DriverKeeps h k → k.started ≡ true → may_be_taken h k ≡ true → is_some (command_ring h) ≡ true
  unfolding command_id may_be_taken
  some_command k d on taken =
      let below = ltb-true (next_command h k) (ceiling (shape_of h (command_id h)) (k.ring (command_id h))) taken in
      grind (arith, none_has_256, command_is_ring h k d (named_if_taken h k d on below))

  -- and where an event tells of a stop
  pub stops_by_command : (k : Known) (b : Block) → DriverKeeps h k → lenient h k (Read b) ≡ [] → kind b ≡ TransferEvent → StopsByCommand h (code_told h k b)
  stops_by_command k b d clean is stopping =
      some_command k d (event_facts h k b clean).started
      (elim (transfer_facts h k b clean (ap is_transfer_event is)) [
        | inl f ↦ stopping_taken h k b f stopping
        | inr s ↦ absurd (no_stop_of_service h k b s.service stopping)
      ])

  pub next_there : (k : Known) (ring : Ring) (n : ℕ) → command_ring h ≡ Some ring → n ≡ floor_number (k.ring ring.id) → n ≡ next_command h k
  next_there k ring n there is = is ∙ ap (λ i. floor_number (k.ring i)) (sym (command_id_is h ring there)) ∙ sym (next_is h k)

  -- ---- the transfer ring with an ID

  module _ (id : ℕ) (transfer : IsTransferRing h id) where
    pub kept_there : (n : ℕ) → position (λ ring. ring.id == id) h.rings ≡ Some n → (k : Known) (items : List RingRecord) → FollowsRings h k items → (known : RingRecord) →
        slice_get items n ≡ Some known → (ring : Ring) × FollowsRing ring.shape (k.ring id) known
    kept_there n e k items f known at =
        let found = found_at (λ ring. ring.id == id) h.rings n e in
        let is : found.0.id ≡ id = eqb-true found.0.id id found.2 in
        let same : found.0 ≡ transfer.ring = same_Some found.0 transfer.ring (sym (ring_found h headed found.0 (among_at h.rings n found.0 found.1)) ∙ ap (λ j. ring_with h j) is ∙ transfer.found) in
        let kind = ap (λ (q : Ring). is_transfer_kind q.shape.kind) same ∙ transfer.kind in
        (found.0, subst (λ i. FollowsRing found.0.shape (k.ring i) known) is (f.each n found.0 known found.1 at (driven found.0.shape.kind kind)))

    pub not_there : {X : Type 0} → position (λ ring. ring.id == id) h.rings ≡ None → X
    not_there none = grind (arith, find_some, false≢true, none_found, find_some (λ q. q.id == id) h.rings transfer.ring transfer.found)
