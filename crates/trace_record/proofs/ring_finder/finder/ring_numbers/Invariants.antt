use Rattle.trace_record.proofs.BaseWords.{AreNumbers}
use Rattle.trace_record.proofs.ring_finder.finder.ring_numbers.Given as goal

abbrev pub invariant-loop-number : goal.invariant-loop-number
invariant-loop-number l = AreNumbers l.rings l.number l.numbers.items
