use Rattle.controller_model.proofs.Words.{◌∙◌, ap, sym, names_last, unreported}
use Rattle.controller_model.proofs.reports.is_last.Goals as goal

pub returns : goal.returns
unfolding unreported
returns c = λ h words w f.
    c.names_last.ensures ∙ ap (λ q. names_last c.args.event q.items) c.unreported_takes.ensures
    ∙ sym (ap (λ xs. names_last c.args.event xs) (c.ring_state.ensures h words w f).history.unreported)
