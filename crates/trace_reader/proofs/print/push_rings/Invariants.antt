use Rattle.trace_reader.proofs.Words.{◌≡◌, ◌++◌, map, take, printed_line, ring_fields, flat_map}
use Rattle.trace_reader.proofs.print.push_rings.Given as goal

abbrev pub invariant-loop-ring : goal.invariant-loop-ring
invariant-loop-ring l = l.out.items ≡ l.initial.out.items ++ flat_map printed_line (map ring_fields (take l.ring-index l.rings))
