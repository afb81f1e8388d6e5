use Rattle.trace_reader.proofs.Laws.{arith, common_steps, ring_fields, line_of}
use Rattle.trace_reader.proofs.print.push_ring.Goals as goal

pub returns : goal.returns
returns c = rw (line_of (ring_fields c.args.ring.now)) (grind (arith, common_steps, c.in_ok-push_ring_fields.ensures, c.in_ok-extend_from_slice.ensures.items))
