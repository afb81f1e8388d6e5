use Rattle.replayer.proofs.MiddleLaws.{arith, err_from_is_err_and, HasMade, all_made, more_made, none_made}
use Rattle.replayer.proofs.scheduler.attempt.Attempt.make_all.Goals as goal

pub loop-step-preserved : goal.loop-step-preserved
loop-step-preserved c m has =
    let k = c.loop-step.invariant m has in
    more_made m k.0 c.args.steps.now c.loop-step.step-index c.step-item.result (HasMade c.make.new.self) _ c.loop-step-test.true c.step-item.is k.2 (c.in_ok-make.ensures k.0 k.1)

pub returns-in_err-make : goal.returns-in_err-make
returns-in_err-make c m has =
    let p = err_from_is_err_and c.from_residual.result c.from_residual.ensures.1 in
    let k = c.loop-step.invariant m has in
    rw (p.1, p.2) (none_made m k.0 c.args.steps.now c.loop-step.step-index c.step-item.result c.in_err-make.field-0.0 _ _ c.loop-step-test.true c.step-item.is k.2 (c.in_err-make.ensures k.0 k.1))

pub returns : goal.returns
returns c m has =
    let k = c.loop-step.invariant m has in
    all_made m k.0 c.args.steps.now c.loop-step.step-index _ (HasMade c.loop-step.self) (omega (arith, c.loop-step-test.false)) k.2 k.1
