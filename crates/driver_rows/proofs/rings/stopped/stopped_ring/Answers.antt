use Rattle.driver_rows.proofs.Laws.{◌∙◌, sym, unlisted}
use Rattle.driver_rows.proofs.rings.stopped.stopped_ring.Goals as goal

pub returns-in_default-clause-none : goal.returns-in_default-clause-none
returns-in_default-clause-none g c = λ k f d fits. unlisted c.args.header.now k d c.args.id c.in_default.ensures.none

pub returns-then-has_stopped-clause-stopped : goal.returns-then-has_stopped-clause-stopped
returns-then-has_stopped-clause-stopped g c = λ k f d fits. sym (c.has_stopped.ensures k f d fits) ∙ c.if-has_stopped.true

pub returns-else-has_stopped-clause-none : goal.returns-else-has_stopped-clause-none
returns-else-has_stopped-clause-none g c = λ k f d fits. sym (c.has_stopped.ensures k f d fits) ∙ c.if-has_stopped.false
