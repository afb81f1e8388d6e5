use Rattle.controller_model.proofs.Words.{◌+◌, ◌≤◌, ◌∙◌, Some, length, sym, arith, unreported, in_state, inactive, report_error, with_reported}
use Rattle.controller_model.proofs.reports.report_error.Goals as goal

pub returns-then-not-works-clause-change : goal.returns-then-not-works-clause-change
unfolding report_error
returns-then-not-works-clause-change c = λ h words w f. simp (sym (c.works.ensures h words w f) ∙ c.if-not-works.true) tt

pub returns-then-not-is_last-clause-change : goal.returns-then-not-is_last-clause-change
unfolding report_error
returns-then-not-is_last-clause-change c = λ h words w f.
    simp (sym (c.works.ensures h words w f) ∙ c.if-not-works.false, sym (c.is_last.ensures h words w f) ∙ c.if-not-is_last.true) tt

pub returns-clause-change : goal.returns-clause-change
unfolding report_error with_reported inactive in_state
returns-clause-change c = λ h words w f.
    let all = c.unreported-count.ensures h words w f in
    let enough : c.unreported-count.result ≤ length (unreported w c.args.ring) = omega (arith, all) in
    let u = with_reported h w c.args.ring (w.reported c.args.ring + c.unreported-count.result) in
    let quiet = c.deactivate.ensures.change h words u (c.report_takes.ensures.change h words w enough f) in
    simp (sym (c.works.ensures h words w f) ∙ c.if-not-works.false, sym (c.is_last.ensures h words w f) ∙ c.if-not-is_last.false)
    (rw all at (c.set_state.ensures.change h words (inactive u (Some c.args.ring)) quiet))
