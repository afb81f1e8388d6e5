-- What the log of a certificate holds, in terms of what was and is lent
use Rattle.std.specs.Prelude.{List}
use Rattle.traces.specs.declared.header.Header.{Header}
use Rattle.ring_knowledge.specs.declared.lease.Lease.{Lease}
use Rattle.leases.specs.LeaseBooks.Lents.{Lent}
use Rattle.leases.specs.CertificateLogs.Following.{FollowsList}
use Rattle.leases.specs.declared.log.certificate_log.CertificateLog.{CertificateLog}

-- it has followed the list of these leases along what was and is lent
abbrev pub FollowsCertificate : List Lease → Header → List Lent → CertificateLog → Type 0
FollowsCertificate list h ts b = FollowsList list h ts b.list b.blocks b.links
