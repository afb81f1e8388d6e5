use Rattle.driver_rows.proofs.Laws.{arith, ◌≡◌, ◌+◌, ◌^◌, nat_lt, ◌||◌, Header, IsHeader, IsFinder, touches_ring, is_bad_area, stops, goes_on}
use Rattle.driver_rows.proofs.context_rules.areas.is_bad_area.Goals.{Joined-ends_above, then-ends_above, else-ends_above}
use Rattle.driver_rows.proofs.context_rules.areas.is_bad_area.Goals as goal

before_last : (c : Joined-ends_above) (h : Header) → IsHeader h → IsFinder h.rings c.args.finder.now → c.if-ends_above.value ≡ (nat_lt (2 ^ 64) (c.args.from + c.args.len) || touches_ring h c.args.from c.args.len)
before_last c h headed is = grind (arith, then-ends_above, stops, else-ends_above, goes_on)

pub returns-then-touches_rings-clause-rule : goal.returns-then-touches_rings-clause-rule
unfolding is_bad_area
returns-then-touches_rings-clause-rule c = λ h k memory headed is f. stops _ _ _ (before_last (goal.at.returns-then-touches_rings-clause-rule c).Joined-ends_above h headed is) c.if-touches_rings.true

pub returns-else-touches_rings-clause-rule : goal.returns-else-touches_rings-clause-rule
unfolding is_bad_area
returns-else-touches_rings-clause-rule c = λ h k memory headed is f.
    goes_on _ _ _ _ (before_last (goal.at.returns-else-touches_rings-clause-rule c).Joined-ends_above h headed is) c.if-touches_rings.false (c.touches_devices.ensures _ _ _ f)
