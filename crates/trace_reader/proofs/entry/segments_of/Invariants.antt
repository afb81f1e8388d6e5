use Rattle.trace_reader.proofs.Laws.{◌≡◌, length, map, segments_of, segment_of, behind}
use Rattle.trace_reader.proofs.entry.segments_of.Given as goal

-- the fields that are left
abbrev pub decreases-loop-field : goal.decreases-loop-field
decreases-loop-field l = length l.fields

abbrev pub invariant-loop-field : goal.invariant-loop-field
invariant-loop-field l = segments_of l.fn.fields ≡ behind (map segment_of l.segments.items) (segments_of l.fields)
