use Rattle.trace_reader.proofs.Words.{Keeps}
use Rattle.trace_reader.proofs.row_reader.source.read_some.Given as goal

-- what was tried so far gave nothing
abbrev pub invariant-loop : goal.invariant-loop
invariant-loop g l = Keeps (g.R.Read.remaining l.fn.reader) (g.R.Read.remaining l.reader)
