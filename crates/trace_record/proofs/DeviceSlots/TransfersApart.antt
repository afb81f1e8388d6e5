-- A Transfer Event leaves a ring as it is that no endpoint has
use Rattle.trace_record.proofs.MiddleLaws.{arith, rules, ◌≡◌, ◌+◌, ◌∙◌, ◌≢◌, ℕ, Option, Some, option_map, none-some, same_Some, put_pair, Block, code, slot, endpoint, pointer, is_success, is_halting, is_trb_error, is_stopping, Spot, number, after, Reaches, Holds, stopped_number, EndpointState, Header, shape_of, Known, RingSpot, on_ring, spot_on, event_at, passed, broken_off, stopped_at, transferred, transferred_at, transfer_read, ring_elsewhere}
use Rattle.ring_knowledge.proofs.Words.{named}

-- no endpoint has the ring
abbrev pub NoEndpointHas : ℕ → Known → Type 0
NoEndpointHas q k = (s i : ℕ) → k.ring_of s i ≡ Some q → ⊥

module _ (h : Header) (k : Known) where
  module _ (q r : ℕ) (other : q ≢ r) where
    passed_off : (t : Spot) → (passed h k r t).ring q ≡ k.ring q
    unfolding passed
    passed_off t = ring_elsewhere h k r q (Reaches (after (shape_of h r) (number t))) other

    broken_is_off : (s i : ℕ) (t : Spot) (state : EndpointState) → (broken_off h k s i r t state).ring q ≡ k.ring q
    unfolding broken_off
    broken_is_off s i t state = ring_elsewhere h (passed h k r t) r q (Holds (number t + 1)) other ∙ passed_off t

    transferred_off : (c s i : ℕ) (t : Spot) → (transferred h k c s i r t).ring q ≡ k.ring q
    unfolding transferred stopped_at
    transferred_off c s i t = search (rules, broken_off, put_pair, is_stopping, stopped_at, is_success, passed, is_halting, is_trb_error, passed_off, broken_is_off, ring_elsewhere, on_ring, stopped_number, shape_of)

  pub transfer_apart : (q : ℕ) (b : Block) → NoEndpointHas q k → (transfer_read h k b).ring q ≡ k.ring q
  unfolding transfer_read transferred_at event_at spot_on
  transfer_apart q b free = grind (arith, spot_on, pointer, slot, endpoint, Option, RingSpot, transferred_at, transferred_off, none-some, named, shape_of, option_map, same_Some, code)
