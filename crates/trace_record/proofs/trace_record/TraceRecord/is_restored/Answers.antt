use Rattle.trace_record.proofs.Laws.{arith}
use Rattle.trace_record.proofs.CommandRing.{same_value}
use Rattle.trace_record.proofs.trace_record.TraceRecord.is_restored.Goals as goal

pub returns-then-is_done : goal.returns-then-is_done
returns-then-is_done c = λ k f. grind (arith, c.halt.ensures k f, c.is_done.ensures, c.eq.ensures, c.value.ensures k f, same_value c.value.result c.args.value)

pub returns-else-is_done : goal.returns-else-is_done
returns-else-is_done c = λ k f. grind (arith, c.halt.ensures k f, c.is_done.ensures)
