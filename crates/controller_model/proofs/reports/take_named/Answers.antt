use Rattle.controller_model.proofs.Words.{◌∙◌, position, ap, sym, names, unreported}
use Rattle.controller_model.proofs.reports.take_named.Goals as goal

pub returns-clause-value : goal.returns-clause-value
unfolding unreported
returns-clause-value c = λ h words w f.
    c.oldest_named.ensures.value ∙ ap (λ q. position (names c.args.event) q.items) c.unreported_takes.ensures
    ∙ sym (ap (λ xs. position (names c.args.event) xs) (c.ring_state.ensures h words w f).history.unreported)

pub returns-clause-below : goal.returns-clause-below
unfolding unreported
returns-clause-below c = λ h words w f.
    rw ((c.ring_state.ensures h words w f).history.unreported, ← c.unreported_takes.ensures) c.oldest_named.ensures.below
