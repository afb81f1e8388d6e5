use Rattle.controller_model.proofs.Words.{◌∙◌, sym, refl, scribbled}
use Rattle.controller_model.proofs.scribbles.scribble.Goals as goal

pub returns-then-not-may_scribble-clause-step : goal.returns-then-not-may_scribble-clause-step
unfolding scribbled
returns-then-not-may_scribble-clause-step g c = λ w f. simp (sym (c.may_scribble.ensures w f) ∙ c.if-not-may_scribble.true) tt

pub returns-clause-step : goal.returns-clause-step
unfolding scribbled
returns-clause-step g c = λ w f.
    simp (sym (c.may_scribble.ensures w f) ∙ c.if-not-may_scribble.false) (refl, c.in_ok-write.ensures c.args.header.now w f)
