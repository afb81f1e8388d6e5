use Rattle.trace_reader.proofs.Laws.{arith, common_steps, Sub, row_fields, line_of}
use Rattle.trace_reader.proofs.print.push_sub.Goals as goal

pub returns : goal.returns
returns c = rw (line_of (row_fields (Sub c.args.ring c.args.blocks.now))) (grind (arith, common_steps, c.in_ok-push_sub_fields.ensures, c.in_ok-extend_from_slice.ensures.items))
