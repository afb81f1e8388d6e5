use Rattle.controller_model.proofs.Words.{◌+◌, ◌∙◌, ap, sym, counted}
use Rattle.controller_model.proofs.steps.count.Goals as goal

pub returns : goal.returns
unfolding counted
returns c = λ h words w f. assumption (ap (λ n. n + 1) f.progress.steps ∙ sym (rw c.in_ok-kept.ensures.ok_part at c.checked_add-steps.ensures).1)
