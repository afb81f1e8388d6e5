use Rattle.leases.proofs.log.certificate_log.CertificateLogLeaseLog.count.Goals as goal

pub returns : goal.returns
returns c = λ list h ts known. known.begun
