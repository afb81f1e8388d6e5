use Rattle.controller_model.proofs.Words.{◌∙◌, sym}
use Rattle.controller_model.proofs.looks.watch_context.Goals as goal

pub returns-in-Some-input_context : goal.returns-in-Some-input_context
returns-in-Some-input_context c = λ h words w f. assumption (f.held ∙ sym (c.watch.ensures words))
