use Rattle.controller_model.proofs.Words.{◌∙◌, is_some, ap, endpoint_success}
use Rattle.controller_model.proofs.successes.endpoint_allows.Goals as goal

pub returns : goal.returns
returns c = λ h words w f.
    c.is_some.ensures ∙ ap (λ o. is_some o) c.after.ensures
    ∙ ap (λ s. is_some (endpoint_success c.args.command.now s)) (c.endpoint_meant.ensures h words w f)
