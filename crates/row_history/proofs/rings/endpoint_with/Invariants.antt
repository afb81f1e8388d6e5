use Rattle.row_history.proofs.BaseWords.{◌≢◌, ◌≤◌, ◌<◌, ℕ, Some, Known, FollowsDevices}
use Rattle.row_history.proofs.rings.endpoint_with.Given as goal

-- no endpoint of a slot before this one has the ring
abbrev pub invariant-loop-slot : goal.invariant-loop-slot
invariant-loop-slot l = (k : Known) (s i : ℕ) → FollowsDevices k l.devices → 1 ≤ s → s < l.slot → 1 ≤ i → i < 32 → k.ring_of s i ≢ Some l.ring
