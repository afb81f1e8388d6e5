use Rattle.driver_rows.proofs.Words.{◌∙◌, ap, sym, was_ring_bound}
use Rattle.driver_rows.proofs.bindings.binding.was_bound.Goals as goal

pub returns-in-None : goal.returns-in-None
unfolding was_ring_bound
returns-in-None c = λ k f. sym (ap (was_ring_bound k) c.in-None.is)

pub returns-in-Some : goal.returns-in-Some
unfolding was_ring_bound
returns-in-Some c = λ k f. c.was_bound.ensures k f ∙ sym (ap (was_ring_bound k) c.in-Some.is)
