use Rattle.controller_model.proofs.Words.{◌≡◌, ◌<◌, ◌≤◌, ℕ, Some, slice_get, RingState, IsLeft}
use Rattle.controller_model.proofs.resets.leave_rings.Given as goal

-- the rings so far are left alone, and the others as they were
abbrev pub invariant-loop-state : goal.invariant-loop-state
invariant-loop-state l = record {
  done : (i : ℕ) (x y : RingState) → i < l.state-index → slice_get l.initial.rings i ≡ Some x → slice_get l.rings i ≡ Some y → IsLeft x y;
  others : (i : ℕ) → l.state-index ≤ i → slice_get l.rings i ≡ slice_get l.initial.rings i;
}
