use Rattle.driver_rows.proofs.Words.{◌≡◌, ℕ, false, list_any, Header, Known, unfinished, moves_ring, FollowsTrace, names_below}
use Rattle.driver_rows.proofs.bindings.moved.is_being_moved.Given as goal

-- no command of a slot below moves it
abbrev pub invariant-loop-slot : goal.invariant-loop-slot
invariant-loop-slot l =
    (h : Header) (k : Known) (memory : ℕ → ℕ) → FollowsTrace h k l.t memory → list_any (names_below (moves_ring h k l.ring) l.slot) (unfinished h k) ≡ false
