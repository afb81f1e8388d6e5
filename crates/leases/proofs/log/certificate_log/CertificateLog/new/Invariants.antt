use Rattle.leases.proofs.Laws.{ℕ, HasBegun}
use Rattle.leases.proofs.log.certificate_log.CertificateLog.new.Given as goal

abbrev pub invariant-loop-lease : goal.invariant-loop-lease
invariant-loop-lease l = (first : ℕ) → HasBegun l.leases l.header first l.lease-index l.list
