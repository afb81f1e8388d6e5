use Rattle.trace_reader.proofs.Words.{◌≡◌, ◌++◌, map, take, printed_line, row_fields, flat_map}
use Rattle.trace_reader.proofs.print.push_rows.Given as goal

abbrev pub invariant-loop-row : goal.invariant-loop-row
invariant-loop-row l = l.out.items ≡ l.initial.out.items ++ flat_map printed_line (map row_fields (take l.row-index l.rows))
