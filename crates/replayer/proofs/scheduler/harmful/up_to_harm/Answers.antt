use Rattle.replayer.proofs.MiddleLaws.{arith, common_steps, does_harm, within_steps}
use Rattle.replayer.proofs.scheduler.harmful.up_to_harm.Goals as goal

pub slice_bounds-done-end : goal.slice_bounds-done-end
slice_bounds-done-end c =
    let few = within_steps c.args.trace.now.header c.args.trace.now.rows c.args.schedule.now.steps c.in-Some.found.step c.in-Some.found.harm (rw c.in-Some.is at c.in_ok-found.ensures.harm) in
    rw c.as_slice.ensures (grind (arith, common_steps, few))

pub returns-clause-harm : goal.returns-clause-harm
returns-clause-harm c =
    let steps = c.args.schedule.now.steps in
    let found = c.in-Some.found in
    rw (c.new-steps.ensures, c.in_ok-from_slice.ensures.items, c.as_slice.ensures)
    (does_harm c.args.trace.now.header c.args.trace.now.rows steps found.step found.harm (rw c.in-Some.is at c.in_ok-found.ensures.harm) c.args.most_rows
    (rw (← c.as_slice.ensures, ← c.rows_made.ensures) c.if-rows_made-most_rows.false))
