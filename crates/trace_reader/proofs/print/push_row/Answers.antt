use Rattle.trace_reader.proofs.Laws.{arith, common_steps, row_fields, line_of}
use Rattle.trace_reader.proofs.print.push_row.Goals as goal

pub returns : goal.returns
returns c = rw (line_of (row_fields c.args.row.now)) (grind (arith, common_steps, c.in_ok-push_row_fields.ensures, c.in_ok-extend_from_slice.ensures.items))
