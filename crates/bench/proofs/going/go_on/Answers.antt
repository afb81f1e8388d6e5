use Rattle.bench.proofs.going.go_on.Goals as goal

pub loop-preserved : goal.loop-preserved
loop-preserved g c = record {
  rows = λ h past b. c.in_ok-try_step.ensures.rows h past (c.loop.invariant.rows h past b);
  judging = λ on. c.in_ok-try_step.ensures.judging (c.loop.invariant.judging on);
}
