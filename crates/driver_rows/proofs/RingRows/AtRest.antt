-- Whether the endpoint that has a ring has stopped
use Rattle.driver_rows.proofs.MiddleLaws.{◌≡◌, ◌≢◌, ◌∙◌, ℕ, Bool, true, false, not, Some, sym, ap, arith, false_from_ne_true, is_stopped, Header, Known, is_touched, in_range, false≢true, ring_with, is_transfer_ring, DriverKeeps, has_stopped, HasStopped, stopped_with, with_stopped, numbered}

module _ (h : Header) (k : Known) (d : DriverKeeps h k) (r : ℕ) where
  -- no endpoint has it
  pub nobody : ((s i : ℕ) → k.ring_of s i ≢ Some r) → false ≡ has_stopped h k r
  nobody none = sym (false_from_ne_true (has_stopped h k r) (λ rests. let at = stopped_with h r 0 k rests in none at.slot at.index at.has))

  -- no transfer ring has this ID
  pub unlisted : is_transfer_ring (ring_with h r) ≡ false → has_stopped h k r ≡ false
  unlisted none = false_from_ne_true (has_stopped h k r) (λ rests.
      let at = stopped_with h r 0 k rests in
      let there = d.states.transfer at.slot at.index r at.has in
      false≢true (sym none ∙ ap is_transfer_ring there.found ∙ there.kind))

  module _ (s i : ℕ) (has : k.ring_of s i ≡ Some r) where
    same : (at : HasStopped h r 0 k) → (at.slot ≡ s) × (at.index ≡ i)
    same at = d.states.one_endpoint at.slot at.index s i r at.has has

    -- it hasn't stopped
    pub runs_on : is_stopped (k.endpoint_state s i) ≡ false → false ≡ has_stopped h k r
    runs_on going = sym (false_from_ne_true (has_stopped h k r) (λ rests.
        let at = stopped_with h r 0 k rests in
        let one = same at in
        false≢true (sym going ∙ sym (ap (λ t. is_stopped (k.endpoint_state t at.index)) one.0 ∙ ap (λ j. is_stopped (k.endpoint_state s j)) one.1) ∙ at.stopped)))

    -- it has, and it is as an unfinished command has it
    pub rests : is_stopped (k.endpoint_state s i) ≡ true → (b : Bool) → b ≡ is_touched h k s i → not b ≡ has_stopped h k r
    rests stopped true touched = sym (false_from_ne_true (has_stopped h k r) (λ rests.
        let at = stopped_with h r 0 k rests in
        let one = same at in
        false≢true (sym at.untouched ∙ ap (λ t. is_touched h k t at.index) one.0 ∙ ap (λ j. is_touched h k s j) one.1 ∙ sym touched)))
    rests stopped false touched =
        let low = numbered h k d s i r has in
        sym (with_stopped h r 0 k (record {
          slot = s;
          index = i;
          slot_in = in_range 1 255 s (omega (arith, low.0)) (omega (arith, low.1));
          index_in = in_range 1 31 i (omega (arith, low.2)) (omega (arith, low.3));
          has = has;
          stopped = stopped;
          untouched = sym touched;
        }))
