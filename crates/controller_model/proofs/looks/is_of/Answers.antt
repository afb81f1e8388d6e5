use Rattle.controller_model.proofs.Words.{option_copied, ◌∙◌, ap, sym, Xfer, is_inside, shape_of, shape_or}
use Rattle.controller_model.proofs.looks.is_of.Goals as goal

pub returns-in-None : goal.returns-in-None
unfolding shape_of
returns-in-None c = λ h r there. sym (ap (λ o. is_inside (shape_or Xfer o) c.args.address) (sym there ∙ ap (λ o. option_copied o) c.in-None.is))

pub returns-in-Some : goal.returns-in-Some
unfolding shape_of
returns-in-Some c = λ h r there.
    c.is_inside.ensures ∙ ap (λ o. is_inside (shape_or Xfer o) c.args.address) (sym (ap (λ o. option_copied o) c.in-Some.is) ∙ there)
