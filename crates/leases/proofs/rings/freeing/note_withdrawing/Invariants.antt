use Rattle.leases.proofs.Laws.{◌≡◌, List, map, Header, shape_of, Lease, Lent, ended_where, is_between}
use Rattle.leases.proofs.rings.freeing.note_withdrawing.Given as goal

abbrev pub invariant-loop-number : goal.invariant-loop-number
invariant-loop-number g l =
    (list : List Lease) (h : Header) (ts : List Lent) → shape_of h l.ring.id ≡ l.ring.shape → g.B.LeaseLog.holds list h ts l.fn.book →
    g.B.LeaseLog.holds list h (map (ended_where (is_between l.ring.id l.from l.number) l.row) ts) l.book
