use Rattle.replayer.proofs.Words.{◌≡◌, drop, Making, made_steps, HasMade}
use Rattle.replayer.proofs.scheduler.attempt.Attempt.make_all.Given as goal

-- with the steps that are left as much is made of what was made so far
abbrev pub invariant-loop-step : goal.invariant-loop-step
invariant-loop-step l = (m : Making) → HasMade l.fn.self m → (k : Making) × HasMade l.self k × (made_steps m l.steps ≡ made_steps k (drop l.step-index l.steps))
