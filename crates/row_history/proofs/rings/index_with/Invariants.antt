use Rattle.row_history.proofs.BaseWords.{◌≢◌, ◌≤◌, ◌<◌, ℕ, Some, Known, FollowsDevices}
use Rattle.row_history.proofs.rings.index_with.Given as goal

-- no endpoint before this one has the ring
abbrev pub invariant-loop-endpoint : goal.invariant-loop-endpoint
invariant-loop-endpoint l = (k : Known) (i : ℕ) → FollowsDevices k l.devices → 1 ≤ i → i < l.endpoint → k.ring_of l.slot i ≢ Some l.ring
