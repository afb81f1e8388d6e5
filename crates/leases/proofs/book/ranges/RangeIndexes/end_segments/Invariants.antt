use Rattle.leases.proofs.BaseWords.{List, map, take, Header, Lease, Lent, ended_where, is_among, StandFrom, segments_in_turn}
use Rattle.leases.proofs.book.ranges.RangeIndexes.end_segments.Given as goal

-- the leases of the segments before the index, in their order, have ended
abbrev pub invariant-loop-place : goal.invariant-loop-place
invariant-loop-place g l =
    (list : List Lease) (h : Header) (ts : List Lent) → g.B.LeaseLog.holds list h ts l.fn.book → StandFrom ts (segments_in_turn l.segments) l.self.segments →
    g.B.LeaseLog.holds list h (map (ended_where (is_among (take l.place (segments_in_turn l.segments))) l.row) ts) l.book
