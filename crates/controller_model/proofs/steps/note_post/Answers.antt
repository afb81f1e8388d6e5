use Rattle.controller_model.proofs.Laws.{◌∙◌, sym, true, follows_along, noted_nowhere, noted_once, noted_there}
use Rattle.controller_model.proofs.steps.note_post.Goals as goal

pub returns-in-None : goal.returns-in-None
returns-in-None c = λ h words w f.
    follows_along h words _ _ (record w { posted_nowhere = true }) (noted_nowhere c.args.live.now w (sym c.has_runs.ensures ∙ c.if-has_runs.true) c.in-None.ensures) (assumption)

pub returns-in-Some : goal.returns-in-Some
returns-in-Some c = λ h words w f. follows_along h words _ _ w (noted_there c.args.live.now w c.in-Some.field-0.now c.in-Some.ensures) f

pub returns-else-has_runs : goal.returns-else-has_runs
returns-else-has_runs c = λ h words w f. follows_along h words _ _ w (noted_once c.args.live.now w (sym c.has_runs.ensures ∙ c.if-has_runs.false)) f
