use Rattle.leases.proofs.BaseWords.{List, take, Header, Lease, Lent, with_begun, segments_in_turn}
use Rattle.leases.proofs.book.ranges.RangeIndexes.begin_segments.Given as goal

-- the leases of the segments before the index, in their order, have begun
abbrev pub invariant-loop-lease : goal.invariant-loop-lease
invariant-loop-lease g l =
    (list : List Lease) (h : Header) (ts : List Lent) → g.B.LeaseLog.holds list h ts l.fn.book →
    g.B.LeaseLog.holds list h (with_begun l.row ts (take l.lease-index (segments_in_turn l.segments))) l.book
