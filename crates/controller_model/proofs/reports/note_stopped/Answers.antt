use Rattle.controller_model.proofs.Words.{◌∙◌, ap, sym, option_map, with_stopped, under_way_of}
use Rattle.controller_model.proofs.reports.note_stopped.Goals as goal

pub returns-in-Some-clause-change : goal.returns-in-Some-clause-change
unfolding with_stopped
returns-in-Some-clause-change c = λ h words w f. assumption (ap (λ o. with_stopped h o) (f.under_way ∙ ap (λ o. option_map under_way_of o) c.in-Some.is))

pub returns-in_default-clause-change : goal.returns-in_default-clause-change
unfolding with_stopped
returns-in_default-clause-change c = λ h words w f. assumption
    (ap (λ o. with_stopped h o) (f.under_way ∙ ap (λ o. option_map under_way_of o) c.in_default.is) ∙ sym (ap (λ o. option_map under_way_of o) c.in_default.is))
