use Rattle.replayer.proofs.MiddleLaws.{◌∙◌, sym, err_from_is_err_and, HasMade, halt_made, halt_unmade}
use Rattle.replayer.proofs.scheduler.attempt.Attempt.halt_before.Goals as goal

pub returns-then-not-tells_halt : goal.returns-then-not-tells_halt
returns-then-not-tells_halt c m has = simp (sym c.tells_halt.ensures ∙ c.if-not-tells_halt.true) has

pub returns-in_err-attempt : goal.returns-in_err-attempt
returns-in_err-attempt c m has =
    let p = err_from_is_err_and c.from_residual.result c.from_residual.ensures.1 in
    rw (p.1, p.2) (simp (sym c.tells_halt.ensures ∙ c.if-not-tells_halt.false) (halt_unmade m c.in_err-attempt.field-0.0 _ _ (c.in_err-attempt.ensures m has)))

pub returns : goal.returns
returns c m has = simp (sym c.tells_halt.ensures ∙ c.if-not-tells_halt.false) (halt_made m _ _ (HasMade c.attempt.new.self) (c.in_ok-attempt.ensures m has))
