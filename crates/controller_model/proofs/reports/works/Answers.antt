use Rattle.controller_model.proofs.Words.{◌&&◌, ◌∙◌, ap, sym, is_running}
use Rattle.controller_model.proofs.reports.works.Goals as goal

pub returns : goal.returns
returns c = λ h words w f.
    let running = c.is_running-is_running.ensures ∙ sym (ap is_running (c.endpoint_of.ensures h words w f).0) in
    (λ i. running i && sym (c.ring_state.ensures h words w f).active i)
