use Rattle.certificate.proofs.Words.{◌≡◌, ◌*◌, ℕ, List, length, AreSeen, leases_in, Consumes}
use Rattle.certificate.proofs.reading.read_records.Given as goal

-- the records of the pieces so far are gone from the reader, and were seen
abbrev pub invariant-loop-pieces : goal.invariant-loop-pieces
invariant-loop-pieces g l =
    (read : List ℕ) × Consumes (g.R.Read.remaining l.fn.reader) (g.R.Read.remaining l.reader) read × (length read ≡ 4080 * l.pieces) × AreSeen l.records (leases_in read (170 * l.pieces)) × (length l.piece ≡ 4080)
