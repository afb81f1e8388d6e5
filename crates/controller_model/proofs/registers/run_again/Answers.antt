use Rattle.controller_model.proofs.Laws.{◌∙◌, sym, true, runs_again, follows_along, told_to_halt}
use Rattle.controller_model.proofs.registers.run_again.Goals as goal

pub returns-then-is_reset : goal.returns-then-is_reset
unfolding runs_again
returns-then-is_reset c = λ h words w f. simp (sym c.is_reset.ensures ∙ c.if-is_reset.true) f

pub returns-then-is_run : goal.returns-then-is_run
unfolding runs_again
returns-then-is_run c = λ h words w f.
    simp (sym c.is_reset.ensures ∙ c.if-is_reset.false, sym c.is_run.ensures ∙ c.if-is_run.true) (c.go_on.ensures h words w f)

pub returns-then-kept : goal.returns-then-kept
returns-then-kept c = λ h words w f.
    follows_along h words _ _ (record w { halting = true })
    (told_to_halt h w c.args.value (sym c.is_reset.ensures ∙ c.if-is_reset.false) (sym c.is_run.ensures ∙ c.if-is_run.false) (f.progress.started ∙ c.if-kept.true))
    (c.set_halting.ensures h words w f)

pub returns-else-kept : goal.returns-else-kept
unfolding runs_again
returns-else-kept c = λ h words w f.
    simp (sym c.is_reset.ensures ∙ c.if-is_reset.false, sym c.is_run.ensures ∙ c.if-is_run.false, f.progress.started ∙ c.if-kept.false) f
