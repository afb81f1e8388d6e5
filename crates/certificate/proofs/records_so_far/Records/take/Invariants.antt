use Rattle.certificate.proofs.Words.{List, ◌++◌, Lease, leases_in, AreSeen}
use Rattle.certificate.proofs.records_so_far.Records.take.Given as goal

-- the records of the piece so far stand behind those before
abbrev pub invariant-loop-record : goal.invariant-loop-record
invariant-loop-record l = (seen : List Lease) → AreSeen l.fn.self seen → AreSeen l.self (seen ++ leases_in l.piece l.record)
