use Rattle.controller_model.proofs.Words.{◌∙◌, Stopped, in_state, inactive}
use Rattle.controller_model.proofs.effects.stop.Goals as goal

pub returns-in-None-clause-change : goal.returns-in-None-clause-change
unfolding in_state inactive
returns-in-None-clause-change c = λ h words w f.
    let u = in_state w c.args.slot c.args.index Stopped in
    let now = c.set_state.ensures.change h words w f in
    let has = (c.endpoint_of.ensures h words u now).1 ∙ c.in-None.is in
    rw has now

pub returns-in-Some-clause-change : goal.returns-in-Some-clause-change
unfolding in_state inactive
returns-in-Some-clause-change c = λ h words w f.
    let u = in_state w c.args.slot c.args.index Stopped in
    let now = c.set_state.ensures.change h words w f in
    let has = (c.endpoint_of.ensures h words u now).1 ∙ c.in-Some.is in
    rw has (c.deactivate.ensures.change h words u now)
