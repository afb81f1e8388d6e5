use Rattle.controller_model.proofs.Words.{◌∙◌, ap, sym, endpoint_meant}
use Rattle.controller_model.proofs.successes.endpoint_meant.Goals as goal

pub returns-in-Some : goal.returns-in-Some
returns-in-Some c = λ h words w f.
    sym (c.endpoint_of.ensures h words w f).0 ∙ ap (λ o. endpoint_meant w.endpoint_state o) (sym c.in-Some.is ∙ c.endpoint.ensures)
