use Rattle.trace_reader.proofs.Laws.{drop, AreLeft}
use Rattle.trace_reader.proofs.segments_so_far.SegmentsSoFar.add_all.Given as goal

-- the segments that are still to be added
abbrev pub invariant-loop-segment : goal.invariant-loop-segment
invariant-loop-segment l = AreLeft l.segments l.fn.self (drop l.segment-index l.segments) l.self
