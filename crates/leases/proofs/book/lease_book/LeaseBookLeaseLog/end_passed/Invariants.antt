use Rattle.leases.proofs.BaseWords.{◌≡◌, List, map, Header, shape_of, Lent, ended_where, is_passed, HoldsLents}
use Rattle.leases.proofs.book.lease_book.LeaseBookLeaseLog.end_passed.Given as goal

abbrev pub invariant-loop-number : goal.invariant-loop-number
invariant-loop-number l =
    (h : Header) (ts : List Lent) → shape_of h l.ring.id ≡ l.ring.shape → HoldsLents h ts l.fn.self →
    HoldsLents h (map (ended_where (is_passed l.ring.id l.from l.number) l.row) ts) l.self
