-- What a Transfer Event leaves as it is
use Rattle.safety.proofs.LowerLaws.{◌≡◌, ◌≢◌, ℕ, true, false, rules, and_parts, or_left, or_right, or_from, false≢true, Spot, is_off, is_running, Header, Known, on_ring, passed, broken_off, stopped_at, transferred, is_working, can_report, at_pair}
use Rattle.safety.proofs.RingsKeep.DriverRows.{ring_here, ring_elsewhere}
use Rattle.safety.proofs.RingsKeep.Transfers.{chain}

-- an event for the endpoint of slot s at index i, on ring r
pub record TransferLeaves (k l : Known) (s i r : ℕ) : Type 0 where
  pub device : l.device ≡ k.device
  pub slot_state : l.slot_state ≡ k.slot_state
  pub ring_of : l.ring_of ≡ k.ring_of
  pub was_bound : l.was_bound ≡ k.was_bound
  pub others : (q : ℕ) → q ≢ r → l.ring q ≡ k.ring q
  pub states : (q j : ℕ) → (q ≡ s → j ≡ i → ⊥) → l.endpoint_state q j ≡ k.endpoint_state q j
  pub moves : (q j : ℕ) → (q ≡ s → j ≡ i → ⊥) → l.must_move q j ≡ k.must_move q j
  pub on : is_off (k.endpoint_state s i) ≡ false → is_off (l.endpoint_state s i) ≡ false
  -- of an endpoint that isn't Running only blocks are reported that were finished before
  pub rests : is_running (k.endpoint_state s i) ≡ false → (l.endpoint_state ≡ k.endpoint_state) × ((l.ring r).held ≡ (k.ring r).held)

module _ (h : Header) (k : Known) (s i r : ℕ) where
  pub transferred_leaves : (c : ℕ) (t : Spot) → can_report h k c s i r t ≡ true → TransferLeaves k (transferred h k c s i r t) s i r
  unfolding transferred can_report passed on_ring broken_off is_working stopped_at
  transferred_leaves c t can = search (rules, chain, ring_elsewhere, ring_here, on_ring, at_pair, is_off, false, false≢true, and_parts, or_left, or_right, or_from)
