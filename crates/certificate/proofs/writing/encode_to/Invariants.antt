use Rattle.certificate.proofs.Words.{◌≡◌, ℕ, List, ◌++◌, length, Appends, lease_bytes, spelling, flat_map}
use Rattle.certificate.proofs.writing.encode_to.Given as goal

abbrev pub decreases-loop-rest : goal.decreases-loop-rest
decreases-loop-rest g l = length l.rest

abbrev pub invariant-loop-rest : goal.invariant-loop-rest
invariant-loop-rest g l =
    (sent : List ℕ) × Appends (g.S.Sink.taken l.fn.sink) (g.S.Sink.taken l.sink) sent × (spelling l.leases ≡ sent ++ flat_map lease_bytes l.rest) × (l.done ≡ length sent)
    × (g.S.Sink.failed l.sink ≡ g.S.Sink.failed l.fn.sink)
