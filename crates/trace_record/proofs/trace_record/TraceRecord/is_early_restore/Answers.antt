use Rattle.trace_record.proofs.Laws.{arith}
use Rattle.trace_record.proofs.BaseWords.{nat_tests}
use Rattle.ownership_rules.specs.Registers.{is_early_restore}
use Rattle.trace_record.proofs.trace_record.TraceRecord.is_early_restore.Goals as goal

pub returns-then-saves : goal.returns-then-saves
unfolding is_early_restore
returns-then-saves c = λ k f. grind (arith, nat_tests, c.is_at_rest.ensures k f)

pub returns-else-saves : goal.returns-else-saves
unfolding is_early_restore
returns-else-saves c = λ k f. grind (arith, nat_tests, c.is_at_rest.ensures k f, c.halt.ensures k f, c.is_saved.ensures)

pub returns-else-restores : goal.returns-else-restores
unfolding is_early_restore
returns-else-restores c = λ k f. grind (arith, nat_tests)
