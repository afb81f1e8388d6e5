use Rattle.controller_model.proofs.Words.{◌∙◌, sym, refl}
use Rattle.controller_model.proofs.registers.read_register.Goals as goal

pub returns-then-not-shows : goal.returns-then-not-shows
returns-then-not-shows c = λ h words w f. simp (sym (c.shows.ensures h words w f) ∙ c.if-not-shows.true) tt

pub returns : goal.returns
returns c = λ h words w f. simp (sym (c.shows.ensures h words w f) ∙ c.if-not-shows.false) (refl, f)
