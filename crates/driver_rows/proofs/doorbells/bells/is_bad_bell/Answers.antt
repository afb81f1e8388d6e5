use Rattle.driver_rows.proofs.Words.{refl, sym, ◌∙◌, is_bad_bell}
use Rattle.driver_rows.proofs.doorbells.bells.is_bad_bell.Goals as goal

pub returns-then-is_no_index : goal.returns-then-is_no_index
unfolding is_bad_bell
returns-then-is_no_index g c = λ k f fit. rw (sym c.is_no_index.ensures ∙ c.if-is_no_index.true) refl

pub returns-then-is_idle : goal.returns-then-is_idle
unfolding is_bad_bell
returns-then-is_idle g c = λ k f fit. rw (sym c.is_no_index.ensures ∙ c.if-is_no_index.false, sym (c.is_idle.ensures k f.devices) ∙ c.if-is_idle.true) refl

pub returns : goal.returns
unfolding is_bad_bell
returns g c = λ k f fit. rw (sym c.is_no_index.ensures ∙ c.if-is_no_index.false, sym (c.is_idle.ensures k f.devices) ∙ c.if-is_idle.false) (c.is_touched.ensures k f fit)
