use Rattle.bench.proofs.Words.{refl, subst, [], IsRingPassed}
use Rattle.bench.proofs.bench.Bench.new.Goals as goal

pub returns-clause-bench : goal.returns-clause-bench
returns-clause-bench g c = record {
  reached = refl;
  none_left = refl;
  beside = c.in_ok-controller.ensures _;
  scheduled = c.new-4.ensures.items;
  written = c.new-5.ensures.items;
  counted = refl;
  judged = λ on. subst (λ h. IsRingPassed g.M.WordMemory.words h [] c.in_ok-judge.judge) c.in_ok-copy.ensures c.in_ok-judge.ensures.passed;
}
