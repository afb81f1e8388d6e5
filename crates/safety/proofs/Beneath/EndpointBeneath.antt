-- The doorbell of an endpoint whose ring is held wakes it; a Transfer Event that was possible before is so behind it, and leaves it woken
use Rattle.safety.proofs.MiddleLaws.{◌≡◌, ◌≢◌, ◌==◌, ◌&&◌, ◌||◌, ◌∙◌, ℕ, true, false, Some, nat_lt, slice_get, option_and_then, sym, ap, eqb-true, rules, false≢true, and_parts, cond-false, or_cases, put_pair, is_running, is_stopped, Header, Known, on_ring, endpoint_rung, DriverKeeps, floor_number, ceiling, is_open, ceiling_within, Block, command_of, is_stop_of, IsHeader, shape_of, command_id, command_at, next_command, transfer_read, is_in_profile, may_be_taken, is_stopping_now, is_impossible_transfer, ring_here, ring_elsewhere, ring_shape, transfer_driver, transfer_not_command, at_pair, SameDriver, on_ring_same, Woken}
use Rattle.safety.proofs.AlikeEvents.WokenTransfers.{transfer_woken}
use Rattle.safety.proofs.StatesKeep.StatesRung.{running_is}
use Rattle.safety.proofs.AlikeEvents.WokenChanges.{one_of}

module _ (h : Header) (k : Known) (s t r : ℕ) (has : k.ring_of s t ≡ Some r) (may : (is_running (k.endpoint_state s t) || is_stopped (k.endpoint_state s t)) ≡ true) where
  abbrev woken : Known
  woken = endpoint_rung h k s t (Some r)

  pub rung_woken : Woken h r (one_of s t) k woken
  unfolding endpoint_rung on_ring
  rung_woken = search (rules, ring_here, ring_elsewhere, and_parts, eqb-true, woken, at_pair, or_cases, running_is, false≢true, is_stopped, k.endpoint_state, put_pair, cond-false)

  pub rung_driver : SameDriver k woken
  unfolding endpoint_rung
  rung_driver = search (rules, on_ring, on_ring_same)

  -- ---- a Transfer Event

  module _ (is : IsHeader h) (d : DriverKeeps h k) (held : is_open (k.ring r) ≡ false) where
    pub not_command : command_id h ≢ r
    not_command same = transfer_not_command h is r (d.states.transfer s t r has) (sym same)

    stops_still : (u j : ℕ) → is_stopping_now h k u j ≡ true → is_stopping_now h woken u j ≡ true
    unfolding is_stopping_now may_be_taken next_command command_at
    stops_still u j stops =
        let c : ℕ = command_id h in
        ap (λ v. nat_lt (floor_number v) (ceiling (shape_of h c) v) && is_stop_of u j (option_and_then command_of (slice_get v.queue (floor_number v)))) (rung_woken.rings c not_command) ∙ stops

    pub transfer_rung : (e : Block) → is_impossible_transfer h k e ≡ false → is_in_profile h k e ≡ true →
        (is_impossible_transfer h woken e ≡ false) × Woken h r (one_of s t) (transfer_read h k e) (transfer_read h woken e)
    transfer_rung e possible inside =
        transfer_woken h r (one_of s t) k woken rung_woken held
        (ceiling_within (shape_of h r) (ring_shape h is r (transfer_driver h r (d.states.transfer s t r has))).is k.memory (k.ring r) (d.rings r (transfer_driver h r (d.states.transfer s t r has)))).1
        (λ u j same. let parts = and_parts (u == s) (j == t) same in ap (λ n. k.ring_of n j) (eqb-true u s parts.0) ∙ ap (λ n. k.ring_of s n) (eqb-true j t parts.1) ∙ has)
        stops_still rung_driver e possible inside
