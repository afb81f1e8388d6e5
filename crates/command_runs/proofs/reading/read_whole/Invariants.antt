use Rattle.command_runs.proofs.Words.{Consumes}
use Rattle.command_runs.proofs.reading.read_whole.Given as goal

-- what was read so far is gone from the reader
abbrev pub invariant-loop : goal.invariant-loop
invariant-loop g l = Consumes (g.R.Read.remaining l.fn.reader) (g.R.Read.remaining l.reader) l.bytes.items
