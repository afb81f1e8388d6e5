use Rattle.segments.proofs.Words.{AreStarts}
use Rattle.segments.proofs.index.starts_of.Given as goal

abbrev pub invariant-loop-number : goal.invariant-loop-number
invariant-loop-number l = AreStarts l.segments l.number l.starts.items
