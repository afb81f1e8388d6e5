use Rattle.driver_rows.proofs.Words.{sym, refl, ◌∙◌, places_badly}
use Rattle.driver_rows.proofs.writes.given_commands.places_badly.Goals as goal

pub returns-then-is_bound_again : goal.returns-then-is_bound_again
unfolding places_badly
returns-then-is_bound_again g c = λ k f d fit fits. rw (sym (c.is_bound_again.ensures k f fits) ∙ c.if-is_bound_again.true) refl

pub returns-then-is_bad_binding : goal.returns-then-is_bad_binding
unfolding places_badly
returns-then-is_bad_binding g c = λ k f d fit fits. rw (sym (c.is_bound_again.ensures k f fits) ∙ c.if-is_bound_again.false, ← c.is_bad_binding.ensures k f d fits, c.if-is_bad_binding.true) refl

pub returns-else-is_bad_binding : goal.returns-else-is_bad_binding
unfolding places_badly
returns-else-is_bad_binding g c = λ k f d fit fits.
    rw (sym (c.is_bound_again.ensures k f fits) ∙ c.if-is_bound_again.false, sym (c.is_bad_binding.ensures k f d fits) ∙ c.if-is_bad_binding.false) (c.is_bad_move.ensures k f d fits)
