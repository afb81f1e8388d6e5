-- What a Transfer Event leaves as it is: all rings but that of its endpoint, and all slots
use Rattle.safety.proofs.LowerLaws.{spot_named, spot_told, ◌≡◌, ◌≢◌, ◌+◌, if◌then◌else◌, ◌∙◌, ℕ, true, Option, Some, refl, sym, ap, option_map, cond_both, none-some, same_Some, put_pair, Block, code, slot, endpoint, is_success, is_halting, is_trb_error, is_stopping, Spot, number, after, Reaches, Holds, stopped_number, Halted, Error, Header, IsHeader, shape_of, command_id, Known, RingSpot, on_ring, spot_on, event_at, passed, broken_off, stopped_at, transferred, transferred_at, transfer_read, EndpointsKeep, rules, arith, command_not_transfer}
use Rattle.safety.proofs.RingsKeep.DriverRows.{ring_elsewhere}

module _ (h : Header) where
  -- the ring of a named spot is the endpoint's
  pub spot_ring : (k : Known) (b : Block) (o : Option ℕ) (at : RingSpot) → spot_on h k b o ≡ Some at → o ≡ Some at.ring
  unfolding spot_on
  spot_ring k b o at e = grind (arith, none-some, spot_named, option_map, same_Some)

  pub event_ring_of : (k : Known) (b : Block) (at : RingSpot) → event_at h k b ≡ Some at → k.ring_of (slot b) (endpoint b) ≡ Some at.ring
  event_ring_of k b at e = spot_ring k b (k.ring_of (slot b) (endpoint b)) at (spot_told h k b at e)

  -- ---- another ring

  module _ (k : Known) (q r : ℕ) (other : q ≢ r) where
    passed_off : (t : Spot) → (passed h k r t).ring q ≡ k.ring q
    unfolding passed
    passed_off t = ring_elsewhere h k r q (Reaches (after (shape_of h r) (number t))) other

    transferred_off : (c s i : ℕ) (t : Spot) → (transferred h k c s i r t).ring q ≡ k.ring q
    unfolding transferred broken_off stopped_at
    transferred_off c s i t =
        let halts : Known = record (broken_off h k s i r t Halted) { must_move = put_pair k.must_move s i true } in
        let fails : Known = broken_off h k s i r t Error in
        let stopped : Known = if is_stopping c then stopped_at h k s i r t else k in
        cond_both (is_success c) (passed h k r t) (if is_halting c then halts else if is_trb_error c then fails else stopped) (λ l. l.ring q ≡ k.ring q)
        (λ _. passed_off t)
        (λ _. cond_both (is_halting c) halts (if is_trb_error c then fails else stopped) (λ l. l.ring q ≡ k.ring q)
        (λ _. (ring_elsewhere h (passed h k r t) r q (Holds (number t + 1)) other ∙ passed_off t))
        (λ _. cond_both (is_trb_error c) fails stopped (λ l. l.ring q ≡ k.ring q)
        (λ _. (ring_elsewhere h (passed h k r t) r q (Holds (number t + 1)) other ∙ passed_off t))
        (λ _. cond_both (is_stopping c) (stopped_at h k s i r t) k (λ l. l.ring q ≡ k.ring q) (λ _. search (rules, on_ring, stopped_number, shape_of, k.ring, ring_elsewhere)) (λ _. refl))))

  at_off : (k : Known) (b : Block) (q : ℕ) (o : Option RingSpot) → ((at : RingSpot) → o ≡ Some at → q ≢ at.ring) → (transferred_at h k b o).ring q ≡ k.ring q
  unfolding transferred_at
  at_off k b q o others = grind (arith, transferred_off, code, slot, endpoint)

  pub transfer_off : (k : Known) (b : Block) (q : ℕ) → k.ring_of (slot b) (endpoint b) ≢ Some q → (transfer_read h k b).ring q ≡ k.ring q
  unfolding transfer_read
  transfer_off k b q other = at_off k b q (event_at h k b) (λ at e same. other (event_ring_of k b at e ∙ ap (λ n. Some n) (sym same)))

  pub transfer_command : IsHeader h → (k : Known) → EndpointsKeep h k → (b : Block) → (transfer_read h k b).ring (command_id h) ≡ k.ring (command_id h)
  transfer_command is k keeps b = transfer_off k b (command_id h) (λ at. command_not_transfer h is (keeps.transfer (slot b) (endpoint b) (command_id h) at))

  -- ---- slots

  pub record LeavesSlots (k l : Known) : Type 0 where
    pub slot_state : l.slot_state ≡ k.slot_state
    pub ring_of : l.ring_of ≡ k.ring_of
    pub was_bound : l.was_bound ≡ k.was_bound
    pub device : l.device ≡ k.device

  pub transfer_slots : (k : Known) (b : Block) → LeavesSlots k (transfer_read h k b)
  unfolding transfer_read transferred_at transferred passed broken_off stopped_at on_ring
  transfer_slots k b = grind (arith, broken_off, put_pair, true, is_stopping, stopped_at, is_success, passed, is_halting, is_trb_error, code, slot, endpoint)
