-- A Transfer Event keeps what is kept of unfinished commands
use Rattle.safety.proofs.MiddleLaws.{spot_ahead, spot_told, ◌≡◌, ◌≢◌, ◌||◌, ◌∙◌, ℕ, not, Bool, true, false, nat_lt, Option, None, Some, arith, refl, sym, ap, subst, inl, inr, eq-eqb, ltb-true, rules, cases_eq, and_parts, and_cases, or_parts, not-false, false≢true, Block, slot, endpoint, Spot, number, ceiling, is_data_below, cases_option, given_below, step_is, ceiling_within, below_is, IsAhead, Command, AddressDevice, StopEndpoint, is_stop_of, EndpointState, is_off, is_running, is_at_rest, Header, IsHeader, shape_of, command_id, Known, RingSpot, event_at, command_at, next_command, transferred_at, transfer_read, is_in_profile, may_be_taken, is_stopping_now, can_report, can_report_at, is_impossible_transfer, IsDriverRing, IsUnfinished, Stays, DriverKeeps, CommandsKeep, binds_ring, drops, same_Some, ring_shape, transfer_driver, transfer_not_command, ceiling_given, AtFloor, at_floor, chain, spot_is, spot_ring, due_has_ring, SameDriver, TransferLeaves, transferred_leaves, ahead_held, unfinished_view, Standing, PlacesStay, MovesAhead, bound_still, still_restored, drops_concerns, stops_drop_none, not_both, SameStates, RingsStay, same_stay, stop_is}
use Rattle.safety.proofs.Rows.SameDriver.{transfer_same}

pub rest_not_running : (e : EndpointState) → is_at_rest e ≡ true → is_running e ≡ false
rest_not_running o rests = grind (arith, false≢true)

module _ (h : Header) (is : IsHeader h) (k : Known) (d : DriverKeeps h k) where
  -- the command that stops an endpoint now is unfinished
  stopping_unfinished : (u : ℕ) (c : Command) (s i : ℕ) → IsUnfinished h k u c → is_stopping_now h k s i ≡ true → IsUnfinished h k (next_command h k) (StopEndpoint s i)
  unfolding is_stopping_now may_be_taken
  stopping_unfinished u c s i other stopping =
      let parts = and_parts (nat_lt (next_command h k) (ceiling (shape_of h (command_id h)) (k.ring (command_id h)))) (is_stop_of s i (command_at h k (next_command h k))) stopping in
      let below = ltb-true (next_command h k) (ceiling (shape_of h (command_id h)) (k.ring (command_id h))) parts.0 in
      let ring : IsDriverRing h (command_id h) = due_has_ring h is (k.ring (command_id h)).floor u other.due in
      let high = ceiling_given (shape_of h (command_id h)) (ring_shape h is (command_id h) ring).is k.memory (k.ring (command_id h)) (d.rings (command_id h) ring) in
      let floor : AtFloor h k = at_floor h is k d ring (omega arith) in
      record { due = floor.due; given = floor.given; command = stop_is s i (command_at h k (next_command h k)) parts.1 }

  -- nothing is reported where no block is below the ceiling, and the endpoint isn't stopping
  none_reported : (s i r : ℕ) (t : Spot) → (is_data_below (ceiling (shape_of h r) (k.ring r)) t ≡ true → ⊥) → (is_stopping_now h k s i ≡ true → ⊥) → (c : ℕ) → can_report h k c s i r t ≡ true → ⊥
  unfolding can_report
  none_reported s i r t none_below none_stops c can = search (rules, chain, and_parts)

  -- while a second Address Device is unfinished nothing is reported of its endpoint
  module _ (u s n r : ℕ) (bsr : Bool) (unfinished_at : IsUnfinished h k u (AddressDevice s bsr n)) (has : k.ring_of s 1 ≡ Some r) (t : Spot) (ahead : IsAhead (shape_of h r) (k.ring r) t) where
    none_below : is_data_below (ceiling (shape_of h r) (k.ring r)) t ≡ true → ⊥
    none_below below =
        let driver : IsDriverRing h r = transfer_driver h r (d.states.transfer s 1 r has) in
        let within = ceiling_within (shape_of h r) (ring_shape h is r driver).is k.memory (k.ring r) (d.rings r driver) in
        let low = below_is (ceiling (shape_of h r) (k.ring r)) t below in
        let given = (step_is (shape_of h r) (k.ring r) (number t) (given_below (shape_of h r) (k.ring r) (number t) (omega (arith, within.1)))).0 in
        let stays : Stays h k r n = (d.unfinished u (AddressDevice s bsr n) unfinished_at).stays r has in
        false≢true (sym (stays.nothing (number t) ahead.from) ∙ given)

    none_stops : is_stopping_now h k s 1 ≡ true → ⊥
    none_stops stopping =
        let other = stopping_unfinished u (AddressDevice s bsr n) s 1 unfinished_at stopping in
        elim (cases_eq (next_command h k) u) [
          | inl same ↦ search (rules, false≢true)
          | inr apart ↦
              not_both k.memory (StopEndpoint s 1) (AddressDevice s bsr n) s 1 ((d.unfinished u (AddressDevice s bsr n) unfinished_at).alone (next_command h k) (StopEndpoint s 1) other apart)
              (refl, refl) (refl, refl)
        ]

    no_report : (c : ℕ) → can_report h k c s 1 r t ≡ true → ⊥
    no_report = none_reported s 1 r t none_below none_stops

  -- while a command that drops the endpoint is unfinished, which binds its ring
  module _ (u s i r : ℕ) (e : Command) (unfinished_at : IsUnfinished h k u e) (has : k.ring_of s i ≡ Some r) (bound : binds_ring h k r e ≡ true) (t : Spot) (ahead : IsAhead (shape_of h r) (k.ring r) t) where
    drops_it : drops k e s i ≡ true
    drops_it = (d.unfinished u e unfinished_at).unkept r s i bound has

    bound_none_below : is_data_below (ceiling (shape_of h r) (k.ring r)) t ≡ true → ⊥
    bound_none_below below = grind (arith, bound_still, below_is, bound_still h k u e (d.unfinished u e unfinished_at) r bound)

    bound_none_stops : is_stopping_now h k s i ≡ true → ⊥
    bound_none_stops stopping =
        let other = stopping_unfinished u e s i unfinished_at stopping in
        elim (cases_eq (next_command h k) u) [
          | inl same ↦ stops_drop_none k e s i s i drops_it (same_Some e (StopEndpoint s i) (sym unfinished_at.command ∙ ap (λ p. command_at h k p) (sym same) ∙ other.command))
          | inr apart ↦ not_both k.memory (StopEndpoint s i) e s i ((d.unfinished u e unfinished_at).alone (next_command h k) (StopEndpoint s i) other apart) (refl, eq-eqb i i refl) (drops_concerns k e s i drops_it)
        ]

    bound_none_reported : (c : ℕ) → can_report h k c s i r t ≡ true → ⊥
    bound_none_reported = none_reported s i r t bound_none_below bound_none_stops

  -- ---- an event for the endpoint of slot s at index i, on its ring

  module _ (c s i r : ℕ) (t : Spot) (has : k.ring_of s i ≡ Some r) (on : is_off (k.endpoint_state s i) ≡ false) (ahead : IsAhead (shape_of h r) (k.ring r) t)
      (can : can_report h k c s i r t ≡ true) (l : Known) (driver : SameDriver k l) (leaves : TransferLeaves k l s i r) where
    states : SameStates k l
    states = search (rules, is_off)

    -- the ring of an endpoint at rest is held, and held where it was
    ahead_at_rest : is_at_rest (k.endpoint_state s i) ≡ true → MovesAhead (shape_of h r) (k.ring r) (l.ring r)
    ahead_at_rest rests = search (rules, rest_not_running, cases_option, false≢true, is_running, states, ahead_held, shape_of)

    stay : (u : ℕ) (e : Command) → IsUnfinished h k u e → RingsStay h k l e
    stay u e unfinished_at = record {
      rest = λ q j p cycle at rests. search (rules, rest_not_running, states);
      ahead = λ q j p x cycle at there rests.
          elim (cases_eq x r) [
            | inl same ↦
                let one = d.states.one_endpoint q j s i r (there ∙ ap (λ n. Some n) same) has in
                subst (λ y. MovesAhead (shape_of h y) (k.ring y) (l.ring y)) (sym same)
                (ahead_at_rest (ap (λ a. is_at_rest (k.endpoint_state a i)) (sym one.0) ∙ ap (λ b. is_at_rest (k.endpoint_state q b)) (sym one.1) ∙ rests))
            | inr other ↦ subst (λ v. MovesAhead (shape_of h x) (k.ring x) v) (sym (leaves.others x other)) (λ a b moves. moves)
          ];
      standing = λ q n x bsr at there.
          elim (cases_eq x r) [
            | inl same ↦
                let one = d.states.one_endpoint q 1 s i r (there ∙ ap (λ n. Some n) same) has in
                let here = subst (λ a. IsUnfinished h k u (AddressDevice a bsr n)) one.0 (subst (λ y. IsUnfinished h k u y) at unfinished_at) in
                absurd (no_report u s n r bsr here (ap (λ b. k.ring_of s b) one.1 ∙ has) t ahead c (ap (λ b. can_report h k c s b r t) one.1 ∙ can))
            | inr other ↦ subst (λ v. Standing (shape_of h x) (k.ring x) v) (sym (leaves.others x other)) (record { here = λ a b moves. moves; nothing = λ none. none })
          ];
      still = λ x bound.
          elim (cases_eq x r) [
            | inl same ↦ absurd (bound_none_reported u s i r e unfinished_at has (ap (λ n. binds_ring h k n e) (sym same) ∙ bound) t ahead c can)
            | inr other ↦ subst (λ v. PlacesStay (shape_of h x) (k.ring x) v) (sym (leaves.others x other)) (λ a b placed. placed)
          ];
      moved = still_restored k l e (λ q j its. ap (λ f. f q j) leaves.ring_of) (λ x. (driver.rings x).free);
    }

    reported_commands : CommandsKeep h l
    reported_commands =
        let other : command_id h ≢ r = λ same. transfer_not_command h is r (d.states.transfer s i r has) (sym same) in
        let before = unfinished_view h k l (driver.rings (command_id h)) (ap (λ v. v.floor) (leaves.others (command_id h) other)) in
        same_stay h k l states d.unfinished before (λ p c u. stay p c (before p c u))

  at_commands : (b : Block) (o : Option RingSpot) → event_at h k b ≡ o → is_off (k.endpoint_state (slot b) (endpoint b)) ≡ false → can_report_at h k b o ≡ true →
      SameDriver k (transferred_at h k b o) → CommandsKeep h (transferred_at h k b o)
  unfolding transferred_at can_report_at
  at_commands b None found on can driver = d.unfinished
  at_commands b (Some at) found on can driver =
      let has = spot_ring h k b (k.ring_of (slot b) (endpoint b)) at (spot_told h k b at found) in
      let ring : IsDriverRing h at.ring = transfer_driver h at.ring (d.states.transfer (slot b) (endpoint b) at.ring has) in
      let ahead = spot_ahead h k b at.ring at.spot (d.rings at.ring ring)
      (spot_is h k b (k.ring_of (slot b) (endpoint b)) at (spot_told h k b at found)) in
      search (rules, reported_commands, transferred_leaves)

  pub transfer_commands : (b : Block) → is_impossible_transfer h k b ≡ false → is_in_profile h k b ≡ true → CommandsKeep h (transfer_read h k b)
  unfolding transfer_read is_impossible_transfer
  transfer_commands b possible inside =
      elim (and_cases (is_in_profile h k b) (is_off (k.endpoint_state (slot b) (endpoint b)) || not (can_report_at h k b (event_at h k b))) possible) [
        | inl outside ↦ absurd (false≢true (sym outside ∙ inside))
        | inr none ↦
            let parts = or_parts (is_off (k.endpoint_state (slot b) (endpoint b))) (not (can_report_at h k b (event_at h k b))) none in
            at_commands b (event_at h k b) refl parts.0 (not-false (can_report_at h k b (event_at h k b)) parts.1) (transfer_same h k b)
      ]
