use Rattle.leases.proofs.BaseWords.{◌≡◌, List, map, Header, shape_of, Lease, Lent, ended_where, is_passed, FollowsCertificate}
use Rattle.leases.proofs.log.certificate_log.CertificateLogLeaseLog.end_passed.Given as goal

abbrev pub invariant-loop-number : goal.invariant-loop-number
invariant-loop-number l =
    (list : List Lease) (h : Header) (ts : List Lent) → shape_of h l.ring.id ≡ l.ring.shape → FollowsCertificate list h ts l.fn.self →
    FollowsCertificate list h (map (ended_where (is_passed l.ring.id l.from l.number) l.row) ts) l.self
