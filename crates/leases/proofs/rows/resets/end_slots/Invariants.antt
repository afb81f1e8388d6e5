use Rattle.leases.proofs.Laws.{ℕ, List, EntriesFit, FollowsTrace, HoldsAll, IsInStep, Known, Lease, Lent, below, slot_of}
use Rattle.leases.proofs.rows.resets.end_slots.Given as goal

-- the leases of the ranges of slots below the next have ended
abbrev pub invariant-loop-slot : goal.invariant-loop-slot
invariant-loop-slot g l =
    (list : List Lease) (k : Known) (memory : ℕ → ℕ) (ts : List Lent) → FollowsTrace l.header k l.t memory → EntriesFit k → IsInStep l.header k ts →
    HoldsAll (g.B.LeaseLog.holds list) l.header ts l.fn.book l.ranges → HoldsAll (g.B.LeaseLog.holds list) l.header (below slot_of l.number ts l.slot) l.book l.ranges
