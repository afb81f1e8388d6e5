use Rattle.segments.proofs.Words.{◌≡◌, map, drop, are_apart, segment_of}
use Rattle.segments.proofs.rules.are_apart.Given as goal

abbrev pub invariant-loop-i : goal.invariant-loop-i
invariant-loop-i l = are_apart (map segment_of (drop l.i l.segments)) ≡ are_apart (map segment_of l.segments)
