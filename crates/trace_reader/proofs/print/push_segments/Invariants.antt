use Rattle.trace_reader.proofs.Words.{◌≡◌, ◌++◌, map, take, spaced, segment_field}
use Rattle.trace_reader.proofs.print.push_segments.Given as goal

abbrev pub invariant-loop-segment : goal.invariant-loop-segment
invariant-loop-segment l = l.out.items ≡ l.initial.out.items ++ spaced (map segment_field (take l.segment-index l.segments))
