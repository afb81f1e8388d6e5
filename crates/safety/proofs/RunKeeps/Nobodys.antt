-- On the ID that no ring has nothing happens, whatever the row
use Rattle.safety.proofs.MiddleLaws.{no_id, Shape, IsNobodys, ◌≡◌, ◌≢◌, ◌+◌, ◌≤◌, ◌<◌, ◌==◌, ◌||◌, ◌∙◌, ℕ, true, false, nat_le, nat_lt, Option, None, Some, arith, refl, sym, ap, subst, inl, inr, rules, and_parts, leb-true, ltb-true, cases_option, cond_both, false≢true, false_from_ne_true, Block, BlockKind, TransferEvent, CommandCompletion, kind, slot, endpoint, is_command_completion, number, after, place_count, RingView, Declares, Opens, Reaches, Writes, changed, gives, Command, Header, IsHeader, Sub, Write, Reg, Bell, Read, RegRead, ring_with, shape_of, command_id, Known, on_ring, command_at, next_command, endpoint_rung, rung, succeeded, stop_ended, finished, completed, event_read, learned, is_driver_ring, IsDriverRing, DriverKeeps, KeptByRows, EventFacts, event_facts, bell_facts, ring_elsewhere, endpoints_of, register_leaves, status_leaves, written_view, command_is_ring, named_in_run, named_if_taken, may_declare, none_has_256, transfer_off, no_places, changes_elsewhere}
use Rattle.safety.proofs.HeaderRings.RingIds.{transfer_driver}
use Rattle.safety.proofs.RingsKeep.KeptRings.{completion_facts}
use Rattle.safety.specs.EndpointsKeep as endpoints

-- a position of a ring without places is never due
none_due : (shape : Shape) (v : RingView) (a w p : ℕ) → place_count shape ≡ 0 → gives shape v.floor p a w ≡ false
none_due shape v a w p none =
    false_from_ne_true (gives shape v.floor p a w) (λ given.
    let first = (and_parts _ _ (and_parts _ _ given).0).0 in
    let due = and_parts (nat_le (number v.floor) p) (nat_lt p (number v.floor + place_count shape)) first in
    let low : number v.floor ≤ p = leb-true (number v.floor) p due.0 in
    let high : p < number v.floor + place_count shape = ltb-true p (number v.floor + place_count shape) due.1 in
    absurd (omega arith))

writes_none : (shape : Shape) (v : RingView) (a w : ℕ) → place_count shape ≡ 0 → IsNobodys v → IsNobodys (changed shape v (Writes a w))
writes_none shape v a w none n = record {
  queue = n.queue;
  lengths = n.lengths;
  held = n.held;
  floor = n.floor;
  given = λ p. ap (λ b. b || gives shape v.floor p a w) (n.given p) ∙ none_due shape v a w p none;
  free = n.free;
}

module _ (h : Header) (is : IsHeader h) where
  pub no_driver : (r : ℕ) → is_driver_ring (ring_with h r) ≡ true → no_id ≢ r
  unfolding is_driver_ring
  no_driver r driver same =
      elim (cases_option (ring_with h r)) [
        | inl none ↦ false≢true (sym (ap is_driver_ring none) ∙ driver)
        | inr some ↦ none_has_256 h is some.0 (ap (ring_with h) same ∙ some.1)
      ]

  no_transfer : endpoints.IsTransferRing h no_id → ⊥
  no_transfer transfer = no_driver no_id (transfer_driver h no_id transfer) refl

  no_command : IsDriverRing h (command_id h) → no_id ≢ command_id h
  no_command ring same = none_has_256 h is ring.ring (ap (ring_with h) same ∙ ring.found)

  module _ (k : Known) (d : DriverKeeps h k) where
    by_endpoint : (s t : ℕ) (q : Option ℕ) → k.ring_of s t ≡ q → (endpoint_rung h k s t q).ring no_id ≡ k.ring no_id
    unfolding endpoint_rung
    by_endpoint s t None at = refl
    by_endpoint s t (Some r) at = ring_elsewhere h k r no_id Opens (λ same. no_transfer (subst (endpoints.IsTransferRing h) (sym same) ((endpoints_of h k d.states).transfer s t r at)))

    rung_same : IsDriverRing h (command_id h) → (s t : ℕ) → (learned h k (Bell s t)).ring no_id ≡ k.ring no_id
    unfolding learned rung
    rung_same ring s t =
        cond_both (s == 0) (on_ring h k (command_id h) Opens) (endpoint_rung h k s t (k.ring_of s t)) (λ l. l.ring no_id ≡ k.ring no_id)
        (λ _. ring_elsewhere h k (command_id h) no_id Opens (no_command ring)) (λ _. by_endpoint s t (k.ring_of s t) refl)

    finished_same : (b : Block) (q : Option Command) → (finished h k b q).ring no_id ≡ k.ring no_id
    unfolding finished succeeded stop_ended
    finished_same b q = let keeps = endpoints_of h k d.states in search (rules, cond_both, changes_elsewhere, no_transfer)

    read_same : (b : Block) (n : BlockKind) → (is_command_completion n ≡ true → IsDriverRing h (command_id h)) → (event_read h k n b).ring no_id ≡ k.ring no_id
    unfolding event_read completed
    read_same b TransferEvent ring = transfer_off h k b no_id (λ at. no_transfer ((endpoints_of h k d.states).transfer (slot b) (endpoint b) no_id at))
    read_same b CommandCompletion ring =
        let l : Known = finished h k b (command_at h k (next_command h k)) in
        ring_elsewhere h l (command_id h) no_id (Reaches (after (shape_of h (command_id h)) (next_command h k))) (no_command (ring refl)) ∙ finished_same b (command_at h k (next_command h k))
    read_same b _ ring = refl

-- nothing is known of it behind any row
module _ (h : Header) where
  is_nobodys : (k l : Known) → DriverKeeps h k → l.ring no_id ≡ k.ring no_id → IsNobodys (l.ring no_id)
  is_nobodys k l d same = subst IsNobodys (sym same) (d.nobody no_id refl)

  row_nobody : KeptByRows h (λ k. IsNobodys (k.ring no_id))
  unfolding learned
  row_nobody is k (Sub r blocks) d clean on =
      is_nobodys k (learned h k (Sub r blocks)) d (ring_elsewhere h k r no_id (Declares blocks) (no_driver h is r (may_declare h k r blocks clean).0))
  row_nobody is k (Write a w) d clean on =
      subst IsNobodys (sym (written_view h k a w no_id)) (writes_none (shape_of h no_id) (k.ring no_id) a w (no_places h is) (d.nobody no_id refl))
  row_nobody is k (Reg r x) d clean on = is_nobodys k (learned h k (Reg r x)) d (ap (λ f. f no_id) (register_leaves h k r x).ring)
  row_nobody is k (Bell s t) d clean on =
      let facts = bell_facts h k s t clean in
      is_nobodys k (learned h k (Bell s t)) d (rung_same h is k d (command_is_ring h k d (named_in_run h k d facts.started facts.on)) s t)
  row_nobody is k (Read b) d clean on =
      let facts : EventFacts h k b = event_facts h k b clean in
      is_nobodys k (learned h k (Read b)) d
      (read_same h is k d b (kind b) (λ completion. command_is_ring h k d (named_if_taken h k d facts.started (completion_facts h k b completion facts.possible).below)))
  row_nobody is k (RegRead r x) d clean on = is_nobodys k (learned h k (RegRead r x)) d (ap (λ f. f no_id) (status_leaves h k r x).ring)
  row_nobody is k row d clean on = d.nobody no_id refl

  pub kept_nobody : KeptByRows h (λ k. (r : ℕ) → r ≡ no_id → IsNobodys (k.ring r))
  kept_nobody is k row d clean on r same = subst (λ n. IsNobodys ((learned h k row).ring n)) (sym same) (row_nobody is k row d clean on)
