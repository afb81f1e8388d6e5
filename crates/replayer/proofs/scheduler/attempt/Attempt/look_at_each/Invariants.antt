use Rattle.replayer.proofs.Words.{◌≡◌, [], drop, Making, looked_at_each, rings_at, HasMade}
use Rattle.replayer.proofs.scheduler.attempt.Attempt.look_at_each.Given as goal

-- with the rings that are left as much is made of what was made so far
abbrev pub invariant-loop-ring : goal.invariant-loop-ring
invariant-loop-ring l =
    (m : Making) → HasMade l.fn.self m → (k : Making) × HasMade l.self k × (looked_at_each [] m (rings_at l.rings) ≡ looked_at_each (rings_at l.active.items) k (rings_at (drop l.ring-index l.rings)))
