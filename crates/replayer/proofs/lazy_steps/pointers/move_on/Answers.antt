use Rattle.replayer.proofs.MiddleLaws.{arith, length, sym, ◌<◌, further_in, no_further}
use Rattle.replayer.proofs.lazy_steps.pointers.move_on.Goals as goal

pub returns-then-is_before-clause-moved : goal.returns-then-is_before-clause-moved
returns-then-is_before-clause-moved c =
    let small : c.args.goal.ring < length c.args.pointers.now = omega arith in
    rw c.from-then-is_before.ensures (further_in c.args.pointers.now c.args.goal.ring c.args.goal.spot small (rw c.from.ensures at (sym c.if-is_before.ensures)))

pub returns-else-is_before-clause-moved : goal.returns-else-is_before-clause-moved
returns-else-is_before-clause-moved c = no_further c.args.pointers.now c.args.goal.ring c.args.goal.spot (rw c.from.ensures at (sym c.if-is_before.ensures))
