use Rattle.controller_model.proofs.Words.{◌≡◌, ℕ, ◌<◌, ◌≤◌, ◌==◌, ◌&&◌, not, false, is_ring, own_ring}
use Rattle.controller_model.proofs.trials.has_own.Given as goal

-- none so far has it
abbrev pub invariant-loop-other : goal.invariant-loop-other
invariant-loop-other l = (k : ℕ) → 1 ≤ k → k < l.other → (not (k == l.index) && is_ring l.ring (own_ring l.rings k)) ≡ false
