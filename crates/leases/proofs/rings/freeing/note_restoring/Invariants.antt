use Rattle.leases.proofs.Laws.{List, map, take, Header, Lease, Known, Block, Lent, with_begun, Restoring}
use Rattle.leases.proofs.rings.freeing.note_restoring.Given as goal

-- the leases of the positions before the index have begun
abbrev pub invariant-loop-position : goal.invariant-loop-position
invariant-loop-position g l =
    (list : List Lease) (h : Header) (k : Known) (ts : List Lent) → Restoring h k ts l.ring l.positions → g.B.LeaseLog.holds list h ts l.fn.book →
    g.B.LeaseLog.holds list h (with_begun l.row ts (map (Block l.ring.id) (take l.position-index l.positions))) l.book
