use Rattle.driver_rows.proofs.Laws.{ap, sym, ◌∙◌, arith, is_some, unwrap_or, and_left, and_right, le-ltb, entry_of, touches_entry, both_hold}
use Rattle.driver_rows.proofs.context_rules.leases.touches_entry.Goals as goal

pub returns-then-is_none : goal.returns-then-is_none
unfolding touches_entry
returns-then-is_none c = λ h k memory f. sym (and_left _ _ (sym (ap is_some (c.device.ensures k f.devices)) ∙ c.if-is_none.ensures))

pub returns-in-Some : goal.returns-in-Some
unfolding touches_entry entry_of
returns-in-Some c = grind (arith, unwrap_or, both_hold, is_some)

pub returns-in-None : goal.returns-in-None
unfolding touches_entry entry_of
returns-in-None c = grind (arith, unwrap_or, and_right, le-ltb)
