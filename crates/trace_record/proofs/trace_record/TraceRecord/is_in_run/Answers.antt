use Rattle.trace_record.proofs.Laws.{arith}
use Rattle.trace_record.proofs.trace_record.TraceRecord.is_in_run.Goals as goal

pub returns-then-is_started : goal.returns-then-is_started
returns-then-is_started c = λ k f. grind (arith, c.is_started.ensures k f, c.halt.ensures k f, c.is_done.ensures)

pub returns-else-is_started : goal.returns-else-is_started
returns-else-is_started c = λ k f. grind (arith, c.is_started.ensures k f)
