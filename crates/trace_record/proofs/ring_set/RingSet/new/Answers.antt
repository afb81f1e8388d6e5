use Rattle.trace_record.proofs.Laws.{false, alike}
use Rattle.trace_record.proofs.ring_set.RingSet.new.Goals as goal

pub returns : goal.returns
returns c = λ r. alike 256 r false
