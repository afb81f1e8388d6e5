use Rattle.trace_record.proofs.Laws.{arith}
use Rattle.trace_record.proofs.BaseWords.{nat_tests}
use Rattle.ownership_rules.specs.Registers.{is_early_reset}
use Rattle.trace_record.proofs.trace_record.TraceRecord.is_early_reset.Goals as goal

pub returns-then-not-has_runs : goal.returns-then-not-has_runs
unfolding is_early_reset
returns-then-not-has_runs c = λ k f g. grind (arith, c.has_runs.ensures)

pub returns-then-value-eq0 : goal.returns-then-value-eq0
unfolding is_early_reset
returns-then-value-eq0 c = λ k f g. grind (arith, nat_tests, c.has_runs.ensures)

pub returns-then-not-is_done : goal.returns-then-not-is_done
unfolding is_early_reset
returns-then-not-is_done c = λ k f g. grind (arith, c.has_runs.ensures, c.halt.ensures k f, c.is_done.ensures)

pub returns-else-not-is_done : goal.returns-else-not-is_done
unfolding is_early_reset
returns-else-not-is_done c = λ k f g. grind (arith, c.has_runs.ensures, c.halt.ensures k f, c.is_done.ensures, c.has_gap.ensures k g)
