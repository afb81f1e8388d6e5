use Rattle.leases.proofs.BaseWords.{subst, Begins, Lease}
use Rattle.leases.proofs.CertificateLogs.Beginning.{range_begins}
use Rattle.leases.proofs.log.certificate_log.CertificateLogLeaseLog.begin_range.Goals as goal

pub returns : goal.returns
returns c = λ list h ts purpose known.
    range_begins list h ts c.args.self.now.list c.begin.new.self c.args.self.now.blocks c.args.self.now.links c.args.row c.args.bytes c.args.address purpose known
    (subst (λ (l : Lease). Begins l c.args.self.now.list c.begin.new.self) (c.range_lease.ensures purpose) c.in_ok-begin.ensures)
