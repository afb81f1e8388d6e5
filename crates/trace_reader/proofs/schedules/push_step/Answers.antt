use Rattle.trace_reader.proofs.Laws.{arith, common_steps, step_fields, line_of}
use Rattle.trace_reader.proofs.schedules.push_step.Goals as goal

pub returns : goal.returns
returns c = rw (line_of (step_fields c.args.step.now)) (grind (arith, common_steps, c.in_ok-push_fields.ensures, c.in_ok-extend_from_slice.ensures.items))
