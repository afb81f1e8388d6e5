use Rattle.trace_record.proofs.Laws.{arith, start_of, starts_push}
use Rattle.trace_record.proofs.ring_finder.finder.all_starts.Goals as goal

pub loop-number-preserved : goal.loop-number-preserved
loop-number-preserved c = grind (arith, start_of, starts_push)
