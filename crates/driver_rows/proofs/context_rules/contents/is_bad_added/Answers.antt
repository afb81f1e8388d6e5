use Rattle.driver_rows.proofs.Words.{arith, refl, Bool, ne_eqb, is_bad_added_in}
use Rattle.driver_rows.proofs.context_rules.contents.is_bad_added.Goals.{then-is_off, else-is_off}
use Rattle.driver_rows.proofs.context_rules.contents.is_bad_added.Goals as goal

pub returns-then-endpoint_type-eq0 : goal.returns-then-endpoint_type-eq0
unfolding is_bad_added_in
returns-then-endpoint_type-eq0 g c = λ k f. rw (← c.endpoint_type.ensures c.requires.aligned c.requires.inside, c.if-endpoint_type-eq0.true) refl

pub returns-after-is_off : goal.returns-after-is_off
unfolding is_bad_added_in
returns-after-is_off g c = grind (arith, Bool, ne_eqb, then-is_off, else-is_off)
