use Rattle.replayer.proofs.MiddleLaws.{err_from_is_err_and, HasMade, step_is, step_isnt, step_unmade}
use Rattle.replayer.proofs.scheduler.attempt.Attempt.make.Goals as goal

pub returns-in_err-attempt : goal.returns-in_err-attempt
returns-in_err-attempt c m has =
    let p = err_from_is_err_and c.from_residual.result c.from_residual.ensures.1 in
    rw (p.1, p.2) (step_unmade m c.args.step c.in_err-attempt.field-0.0 _ _ (c.in_err-attempt.ensures m has))

pub returns-in-Some : goal.returns-in-Some
returns-in-Some c m has = step_is m c.args.step _ c.in-Some.field-0 (HasMade c.attempt.new.self) (rw c.in-Some.is at (c.in_ok-attempt.ensures m has))

pub returns-in-None : goal.returns-in-None
returns-in-None c m has = step_isnt m c.args.step (HasMade c.attempt.new.self) _ (rw c.in-None.is at (c.in_ok-attempt.ensures m has))
