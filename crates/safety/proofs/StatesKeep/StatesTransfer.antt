-- A Transfer Event keeps what is known of states
use Rattle.safety.proofs.MiddleLaws.{code_told, ◌≡◌, ◌≢◌, ◌+◌, ◌∙◌, ℕ, Bool, true, false, Option, None, Some, is_none, refl, ap, rules, and_parts, and_cases, or_parts, not-false, false≢true, none-some, put_pair, Block, slot, endpoint, is_success, is_halting, is_trb_error, is_stopping, Spot, number, after, Reaches, Holds, is_open, stopped_number, EndpointState, Off, Running, Halted, Error, is_running, Header, IsHeader, shape_of, command_id, Known, RingSpot, on_ring, event_at, passed, broken_off, stopped_at, transferred, transferred_at, transfer_read, is_in_profile, is_working, can_report, can_report_at, is_impossible_transfer, DriverKeeps, by_code, ring_here, ring_elsewhere, at_pair, endpoints_of, LeavesSlots, event_ring_of, transfer_command, transfer_slots, EndpointsStand, SlotsStand, StopsNext, SeenStand, endpoints_part, slots_part, seen_part, stops_is, slots_same, OneEndpoint, OneSeen, one_stands, one_seen, none_is}
use Rattle.safety.proofs.StatesKeep.StatesDriver.{view_same, stops_on}
use Rattle.safety.proofs.StatesKeep.StatesRung.{running_is}

pub record PartsStand (h : Header) (k : Known) : Type 0 where
  pub endpoints : EndpointsStand k
  pub slots : SlotsStand k
  pub seen : SeenStand h k

-- the endpoint is Running, and its ring open
record Works (k : Known) (s i r : ℕ) : Type 0 where
  pub runs : k.endpoint_state s i ≡ Running
  pub opened : (k.ring r).held ≡ None

works_is : (k : Known) (s i r : ℕ) → is_working k s i r ≡ true → Works k s i r
unfolding is_working is_open
works_is k s i r is = search (rules, and_parts, is_running, k.endpoint_state, is_none, k.ring, running_is, none_is)

module _ (h : Header) (k : Known) (e : EndpointsStand k) (seen : SeenStand h k) (s i r : ℕ) (bound : k.ring_of s i ≡ Some r) where
  -- what the event changes
  record OnlyThis (l : Known) : Type 0 where
    pub one : OneEndpoint k l s i r
    pub own : OneSeen h k l s i r

  passed_other : (t : Spot) (q : ℕ) → q ≢ r → ((passed h k r t).ring q).held ≡ (k.ring q).held
  unfolding passed
  passed_other t q other = ap (λ v. v.held) (ring_elsewhere h k r q (Reaches (after (shape_of h r) (number t))) other)

  broken_other : (t : Spot) (state : EndpointState) (q : ℕ) → q ≢ r → ((broken_off h k s i r t state).ring q).held ≡ (k.ring q).held
  unfolding broken_off
  broken_other t state q other = ap (λ v. v.held) (ring_elsewhere h (passed h k r t) r q (Holds (number t + 1)) other) ∙ passed_other t q other

  broken_only : (t : Spot) (state : EndpointState) → state ≢ Off → Works k s i r → OnlyThis (broken_off h k s i r t state)
  unfolding broken_off passed on_ring
  broken_only t state on works = search (rules, at_pair, broken_other, none-some, ring_here, passed, number)

  stopped_only : (t : Spot) → Works k s i r → StopsNext h k s i → OnlyThis (stopped_at h k s i r t)
  unfolding stopped_at on_ring
  stopped_only t works stops = search (rules, ring_elsewhere, at_pair, none-some, stopped_number, shape_of, k.ring, ring_here, on_ring)

  must_only : (l : Known) (f : ℕ → ℕ → Bool) → OnlyThis l → OnlyThis (let m : Known = record l { must_move = f } in m)
  must_only l f only = search rules

  transferred_only : (c : ℕ) (t : Spot) → can_report h k c s i r t ≡ true → OnlyThis (transferred h k c s i r t)
  unfolding transferred can_report passed on_ring
  transferred_only c t can =
      by_code OnlyThis (is_success c) (is_halting c) (is_trb_error c) (is_stopping c) _ _ _ _ _ _ _ _ can (λ _. search (rules, passed_other, ring_here, after, shape_of, number))
      (λ both. must_only (broken_off h k s i r t Halted) (put_pair k.must_move s i true) (broken_only t Halted (λ off. cc) (works_is k s i r (and_parts _ _ both).1)))
      (λ both. broken_only t Error (λ off. cc) (works_is k s i r (and_parts _ _ both).1))
      (λ told. let both = and_parts _ _ (and_parts _ _ (and_parts _ _ told).1).0 in stopped_only t (works_is k s i r both.0) (stops_is h k s i both.1)) (search rules)

  only_both : (l : Known) → l.ring (command_id h) ≡ k.ring (command_id h) → OnlyThis l → EndpointsStand l × SeenStand h l
  only_both l command only = search (rules, one_stands, one_seen, only.one, only.own, stops_on, view_same)

module _ (h : Header) (is : IsHeader h) (k : Known) (d : DriverKeeps h k) where
  pub reported : (b : Block) → is_impossible_transfer h k b ≡ false → is_in_profile h k b ≡ true → can_report_at h k b (event_at h k b) ≡ true
  unfolding is_impossible_transfer
  reported b possible inside = search (rules, and_cases, false≢true, not-false, or_parts)

  at_stands : (b : Block) (o : Option RingSpot) → event_at h k b ≡ o → can_report_at h k b o ≡ true → (transferred_at h k b o).ring (command_id h) ≡ k.ring (command_id h) →
      EndpointsStand (transferred_at h k b o) × SeenStand h (transferred_at h k b o)
  unfolding transferred_at can_report_at
  at_stands b None found can command = (endpoints_part h k d.states, seen_part h k d.states)
  at_stands b (Some at) found can command =
      only_both h k (endpoints_part h k d.states) (seen_part h k d.states) (slot b) (endpoint b) at.ring (event_ring_of h k b at found)
      (transferred h k (code_told h k b) (slot b) (endpoint b) at.ring at.spot) command
      (transferred_only h k (endpoints_part h k d.states) (seen_part h k d.states) (slot b) (endpoint b) at.ring (event_ring_of h k b at found) (code_told h k b) at.spot can)

  transfer_both : (b : Block) → is_impossible_transfer h k b ≡ false → is_in_profile h k b ≡ true → (transfer_read h k b).ring (command_id h) ≡ k.ring (command_id h) →
      EndpointsStand (transfer_read h k b) × SeenStand h (transfer_read h k b)
  unfolding transfer_read
  transfer_both b possible inside command = at_stands b (event_at h k b) refl (reported b possible inside) command

  pub transfer_stands : (b : Block) → is_impossible_transfer h k b ≡ false → is_in_profile h k b ≡ true → PartsStand h (transfer_read h k b)
  transfer_stands b possible inside =
      let both = transfer_both b possible inside (transfer_command h is k (endpoints_of h k d.states) b) in
      let slots : LeavesSlots h k (transfer_read h k b) = transfer_slots h k b in
      record { endpoints = both.0; slots = slots_same k (transfer_read h k b) slots.slot_state slots.ring_of slots.device (slots_part h k d.states); seen = both.1 }
