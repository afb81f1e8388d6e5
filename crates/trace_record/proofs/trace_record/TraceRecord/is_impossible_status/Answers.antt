use Rattle.trace_record.proofs.Laws.{arith}
use Rattle.trace_record.proofs.trace_record.TraceRecord.is_impossible_status.Goals as goal

pub returns-then-is_started : goal.returns-then-is_started
returns-then-is_started c = λ k f. grind (arith, c.is_started.ensures k f, c.halt-halt.ensures k f, c.is_asked.ensures)

pub returns-else-is_started : goal.returns-else-is_started
returns-else-is_started c = λ k f. grind (arith, c.is_started.ensures k f)

pub returns-then-not-is_started : goal.returns-then-not-is_started
returns-then-not-is_started c = λ k f. grind (arith, c.is_started-else-has_halted.ensures k f)

pub returns-else-not-is_started : goal.returns-else-not-is_started
returns-else-not-is_started c = λ k f. grind (arith, c.is_started-else-has_halted.ensures k f, c.halt-halt.ensures k f, c.is_done.ensures)
