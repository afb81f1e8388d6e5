use Rattle.replayer.proofs.MiddleLaws.{◌<◌, ◌≤◌, ◌∙◌, sym, arith, nat_tests, rank, shape_behind, one_look, no_look}
use Rattle.replayer.proofs.lazy_steps.looks.push_looks.Goals as goal

pub loop-to-preserved : goal.loop-to-preserved
loop-to-preserved c =
    let before : rank c.loop-to.at < rank c.args.to = grind (arith, nat_tests, c.loop-to-test.ensures) in
    rw (c.in_ok-push.ensures.items, c.next_spot-at.ensures) (one_look c.loop-to.steps.items c.args.ring (shape_behind c.args.shape) c.loop-to.at c.args.to before) ∙ c.loop-to.invariant

pub returns : goal.returns
returns c =
    let past : rank c.args.to ≤ rank c.loop-to.at = grind (arith, nat_tests, c.loop-to-test.ensures) in
    sym (no_look c.loop-to.steps.items c.args.ring (shape_behind c.args.shape) c.loop-to.at c.args.to past) ∙ c.loop-to.invariant
