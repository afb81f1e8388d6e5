use Rattle.trace_record.proofs.BaseWords.{◌≡◌, ◌++◌, map, take, start_of}
use Rattle.trace_record.proofs.ring_finder.finder.push_starts.Given as goal

abbrev pub invariant-loop-segment : goal.invariant-loop-segment
invariant-loop-segment l = l.starts.items ≡ l.fn.starts.items ++ map (start_of l.number) (take l.segment-index l.ring.shape.segments)
