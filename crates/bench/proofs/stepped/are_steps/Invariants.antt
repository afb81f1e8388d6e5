use Rattle.bench.proofs.Words.{All, drop}
use Rattle.traces.specs.Steps.{IsStep}
use Rattle.bench.proofs.stepped.are_steps.Given as goal

-- where the steps that are left can be said, all can
abbrev pub invariant-loop-step : goal.invariant-loop-step
invariant-loop-step l = All IsStep (drop l.step-index l.steps) → All IsStep l.steps
