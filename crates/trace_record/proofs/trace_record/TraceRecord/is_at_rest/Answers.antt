use Rattle.trace_record.proofs.Laws.{arith}
use Rattle.trace_record.proofs.BaseWords.{nat_tests}
use Rattle.trace_record.proofs.trace_record.TraceRecord.is_at_rest.Goals as goal

pub returns-then-value-eq0 : goal.returns-then-value-eq0
returns-then-value-eq0 c = λ k f. grind (arith, nat_tests, c.halt.ensures k f, c.is_done.ensures)

pub returns-else-value-eq0 : goal.returns-else-value-eq0
returns-else-value-eq0 c = λ k f. grind (arith, nat_tests, c.halt.ensures k f, c.is_done.ensures)
