use Rattle.controller_model.proofs.Words.{◌∙◌}
use Rattle.controller_model.proofs.bindings.free.Goals as goal

pub returns-in-None-clause-change : goal.returns-in-None-clause-change
returns-in-None-clause-change c = λ h words w f.
    let has = (c.endpoint_of.ensures h words w f).1 ∙ c.in-None.is in
    rw has f

pub returns-in-Some-clause-change : goal.returns-in-Some-clause-change
returns-in-Some-clause-change c = λ h words w f.
    let has = (c.endpoint_of.ensures h words w f).1 ∙ c.in-Some.is in
    rw has (c.release.ensures.change h words w has f)
