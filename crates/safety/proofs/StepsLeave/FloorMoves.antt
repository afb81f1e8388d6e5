-- A floor that moves on behind a block that the controller has passed: the ring's pointer stands as it did
use Rattle.safety.proofs.LowerLaws.{◌<◌, ◌≤◌, ℕ, rules, Spot, Shape, number, after, RingView, floor_number, ceiling, is_way_given, is_step_given, cases_option, rank_least, next_least, given_count_grows, RingState, RingMatches, ceiling_open, newest_still, number_after}
use Rattle.safety.proofs.NoHarm.NoWait.{ceiling_held}

abbrev pub floor_behind : Shape → RingView → ℕ → RingView
floor_behind shape v p = record v { floor = after shape p }

pub ceiling_grows : (shape : Shape) (v : RingView) (p : ℕ) → floor_number v ≤ p → ceiling shape v ≤ ceiling shape (floor_behind shape v p)
unfolding is_step_given is_way_given
ceiling_grows shape v p from = search (rules, cases_option, ceiling_open, given_count_grows, number_after, ceiling_held)

pub floor_moves : (shape : Shape) (v : RingView) (s : RingState) (t : Spot) (p : ℕ) → floor_number v ≤ p → p < number t → RingMatches shape v s t → RingMatches shape (floor_behind shape v p) s t
unfolding is_way_given
floor_moves shape v s t p from below m = search (rules, rank_least, next_least, ceiling_grows, newest_still)
