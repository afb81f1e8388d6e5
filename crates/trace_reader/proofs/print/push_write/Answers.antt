use Rattle.trace_reader.proofs.Laws.{arith, common_steps, Write, row_fields, line_of}
use Rattle.trace_reader.proofs.print.push_write.Goals as goal

pub returns : goal.returns
returns c = rw (line_of (row_fields (Write c.args.at c.args.word))) (grind (arith, common_steps, c.in_ok-push_write_fields.ensures, c.in_ok-extend_from_slice.ensures.items))
