use Rattle.controller_model.proofs.Words.{◌≡◌, ◌+◌, ◌≤◌, ◌<◌, ◌∙◌, length, sym, arith, report_success, unreported}
use Rattle.controller_model.proofs.reports.report_success.Goals as goal

pub returns-in-None-clause-change : goal.returns-in-None-clause-change
unfolding report_success
returns-in-None-clause-change c = λ h words w f. rw (sym (c.take_named.ensures.value h words w f) ∙ c.in-None.is) tt

pub returns-in-Some-clause-change : goal.returns-in-Some-clause-change
unfolding report_success
returns-in-Some-clause-change c = λ h words w f.
    let below : c.in-Some.n < length (unreported w c.args.ring) = rw c.in-Some.is at (c.take_named.ensures.below h words w f) in
    let enough : c.in-Some.n + 1 ≤ length (unreported w c.args.ring) = omega (arith, below) in
    let same : w.reported c.args.ring + (c.in-Some.n + 1) ≡ w.reported c.args.ring + c.in-Some.n + 1 = omega arith in
    rw (sym (c.take_named.ensures.value h words w f) ∙ c.in-Some.is) (rw same at (c.report_takes.ensures.change h words w enough f))
