use Rattle.bench_runs.proofs.Words.{IsCourse}
use Rattle.bench_runs.proofs.run.hear_rest.Given as goal

-- what was noted is true of the run so far
abbrev pub invariant-loop : goal.invariant-loop
invariant-loop g l = IsCourse g.M.WordMemory.words l.course l.live
