use Rattle.controller_model.proofs.Words.{◌∙◌, length, ap, sym, unreported}
use Rattle.controller_model.proofs.reports.unreported.Goals as goal

pub returns : goal.returns
unfolding unreported
returns c = λ h words w f. c.unreported.ensures ∙ sym (ap length (c.ring_state.ensures h words w f).history.unreported)
