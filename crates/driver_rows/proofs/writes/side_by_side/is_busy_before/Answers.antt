use Rattle.driver_rows.proofs.Words.{◌∙◌, refl, sym}
use Rattle.ownership_rules.specs.Older.{is_busy_before}
use Rattle.driver_rows.proofs.writes.side_by_side.is_busy_before.Goals as goal

pub returns-then-shares_slot_before : goal.returns-then-shares_slot_before
unfolding is_busy_before
returns-then-shares_slot_before c = λ k memory f. c.if-shares_slot_before.true ∙ (rw (sym (c.shares_slot_before.ensures k memory f) ∙ c.if-shares_slot_before.true) refl)

pub returns-else-shares_slot_before : goal.returns-else-shares_slot_before
unfolding is_busy_before
returns-else-shares_slot_before c = λ k memory f.
    c.is_busy_by_slot_before.ensures k memory f ∙ (rw (sym (c.shares_slot_before.ensures k memory f) ∙ c.if-shares_slot_before.false) refl)
