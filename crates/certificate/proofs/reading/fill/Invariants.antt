use Rattle.certificate.proofs.Words.{◌≡◌, ◌≤◌, length, take, Consumes}
use Rattle.certificate.proofs.reading.fill.Given as goal

-- what stands in the buffer so far is gone from the reader
abbrev pub invariant-loop : goal.invariant-loop
invariant-loop g l = (length l.buffer ≡ length l.initial.buffer) × (l.filled ≤ length l.buffer) × Consumes (g.R.Read.remaining l.initial.reader) (g.R.Read.remaining l.reader) (take l.filled l.buffer)
