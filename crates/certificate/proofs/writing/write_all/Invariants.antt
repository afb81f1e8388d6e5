use Rattle.certificate.proofs.Words.{◌≡◌, ◌-◌, ◌≤◌, length, take, Appends}
use Rattle.certificate.proofs.writing.write_all.Given as goal

abbrev pub decreases-loop-taken : goal.decreases-loop-taken
decreases-loop-taken g l = length l.bytes - l.taken

abbrev pub invariant-loop-taken : goal.invariant-loop-taken
invariant-loop-taken g l = (l.taken ≤ length l.bytes) × Appends (g.S.Sink.taken l.fn.sink) (g.S.Sink.taken l.sink) (take l.taken l.bytes) × (g.S.Sink.failed l.sink ≡ g.S.Sink.failed l.fn.sink)
