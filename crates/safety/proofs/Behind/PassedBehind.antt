-- What keeps the Cycle bit of what is free and may be passed keeps it also behind an event: no more is free there, and no more may be passed
use Rattle.safety.proofs.MiddleLaws.{◌≡◌, ◌+◌, ◌%◌, ◌<◌, ◌==◌, ◌&&◌, ◌∙◌, ℕ, not, Bool, true, false, nat_lt, arith, sym, lt-ltb, ltb-true, false≢true, false_from_ne_true, and_parts, and_from, Shape, place_count, address_of, cycle_of, RingView, floor_number, due_positions, ceiling, flips_passed, unrestored, IsIn, some_of, any_of, in_filter, from_filter, PassesNoMore, in_range, RingBehind}
use Rattle.safety.proofs.Behind.LeasesBehind.{from_range}

module _ (shape : Shape) (memory : ℕ → ℕ) (v u : RingView) (b : RingBehind shape memory v u) (passes : PassesNoMore shape v u) where
  -- what is free and due behind the event was before
  pub unrestored_before : (p : ℕ) → IsIn p (unrestored shape u) → IsIn p (unrestored shape v)
  unfolding unrestored due_positions
  unrestored_before p at =
      let found = from_filter u.free (due_positions shape u) p at in
      let range = from_range (floor_number u) (place_count shape) p found.0 in
      let free : v.free p ≡ true = (passes p found.1).0 in
      in_filter v.free (due_positions shape v) p
      (in_range (floor_number v) (place_count shape) p (omega (arith, range.0, b.on)) (b.before.given_within p (b.before.free_given p free))) free

  free_there : (p : ℕ) → IsIn p (unrestored shape u) → u.free p ≡ true
  unfolding unrestored
  free_there p at = (from_filter u.free (due_positions shape u) p at).1

  module _ (a w : ℕ) where
    abbrev aims : ℕ → Bool
    aims p = a == address_of shape p + 12

    abbrev turns : ℕ → Bool
    turns p = not (w % 2 == cycle_of shape p)

    pub no_flips_behind : flips_passed shape v a w ≡ false → flips_passed shape u a w ≡ false
    unfolding flips_passed
    no_flips_behind none =
        false_from_ne_true (flips_passed shape u a w) (λ flips.
        let found = some_of (λ p. nat_lt p (ceiling shape u) && aims p && turns p) (unrestored shape u) flips in
        let parts = and_parts (nat_lt found.0 (ceiling shape u) && aims found.0) (turns found.0) found.2 in
        let both = and_parts (nat_lt found.0 (ceiling shape u)) (aims found.0) parts.0 in
        let below : found.0 < ceiling shape v = (passes found.0 (free_there found.0 found.1)).1 (ltb-true found.0 (ceiling shape u) both.0) in
        false≢true (sym none ∙ any_of (λ p. nat_lt p (ceiling shape v) && aims p && turns p) (unrestored shape v) found.0 (unrestored_before found.0 found.1)
        (and_from (nat_lt found.0 (ceiling shape v) && aims found.0) (turns found.0)
        (and_from (nat_lt found.0 (ceiling shape v)) (aims found.0) (lt-ltb found.0 (ceiling shape v) below) both.1) parts.1)))
