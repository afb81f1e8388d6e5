use Rattle.leases.proofs.Laws.{◌≡◌, List, Known, Lease, Lent, AreLent, AreOpen, DriverKeeps, FollowsRing, HoldsAll, command_id, context_ranges, shape_of, below, context_of}
use Rattle.leases.proofs.rows.unfinished.end_contexts.Given as goal

-- the leases of the contexts of commands below the position have ended
abbrev pub invariant-loop-position : goal.invariant-loop-position
invariant-loop-position g l =
    (list : List Lease) (k : Known) (ts : List Lent) → shape_of l.header (command_id l.header) ≡ l.ring.shape → FollowsRing l.ring.shape (k.ring (command_id l.header)) l.known →
    DriverKeeps l.header k → AreOpen l.header k ts → AreLent ts (context_ranges l.header k) → HoldsAll (g.B.LeaseLog.holds list) l.header ts l.fn.book l.ranges →
    HoldsAll (g.B.LeaseLog.holds list) l.header (below context_of l.number ts l.position) l.book l.ranges
