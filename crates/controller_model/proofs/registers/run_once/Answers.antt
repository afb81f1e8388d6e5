use Rattle.controller_model.proofs.Laws.{◌∙◌, ap, not, sym, runs_once, stops_unless_runs}
use Rattle.controller_model.proofs.registers.run_once.Goals as goal

pub returns-then-not-runs : goal.returns-then-not-runs
unfolding runs_once
returns-then-not-runs c = λ h words w f.
    simp (ap not (f.progress.started ∙ c.if-kept.true), stops_unless_runs, sym c.runs-runs.ensures ∙ c.if-not-runs.true) (c.stop.ensures h words w f)

pub returns-else-not-runs : goal.returns-else-not-runs
unfolding runs_once
returns-else-not-runs c = λ h words w f.
    simp (ap not (f.progress.started ∙ c.if-kept.true), stops_unless_runs, sym c.runs-runs.ensures ∙ c.if-not-runs.false) f

pub returns-then-runs : goal.returns-then-runs
unfolding runs_once
returns-then-runs c = λ h words w f.
    simp (ap not (f.progress.started ∙ c.if-kept.false), sym c.runs-runs.ensures ∙ c.if-runs.true) (c.set_started.ensures h words w f)

pub returns-else-runs : goal.returns-else-runs
unfolding runs_once
returns-else-runs c = λ h words w f. simp (ap not (f.progress.started ∙ c.if-kept.false), sym c.runs-runs.ensures ∙ c.if-runs.false) f
