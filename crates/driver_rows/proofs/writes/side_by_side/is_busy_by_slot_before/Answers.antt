use Rattle.driver_rows.proofs.Words.{◌∙◌, ◌&&◌, Bool, true, false, ◌≡◌, refl, sym, unfinished}
use Rattle.ownership_rules.specs.Commands.{is_busy_by_slot}
use Rattle.driver_rows.proofs.writes.side_by_side.is_busy_by_slot_before.Goals as goal

with_true : (b : Bool) → b ≡ (b && true)
with_true true = refl
with_true false = refl

pub returns-then-not-has_runs : goal.returns-then-not-has_runs
unfolding is_busy_by_slot
returns-then-not-has_runs c = λ k memory f.
    c.is_busy_by_slot.ensures (unfinished c.args.header.now k) f.commands ∙ (rw (sym c.has_runs.ensures ∙ c.if-not-has_runs.true) (with_true _))
