use Rattle.driver_rows.proofs.Words.{◌∙◌, ◌&&◌, Bool, true, false, ◌≡◌, refl, sym, unfinished}
use Rattle.ownership_rules.specs.Commands.{shares_slot}
use Rattle.driver_rows.proofs.writes.side_by_side.shares_slot_before.Goals as goal

with_true : (b : Bool) → b ≡ (b && true)
with_true true = refl
with_true false = refl

pub returns-then-not-is_lenient : goal.returns-then-not-is_lenient
unfolding shares_slot
returns-then-not-is_lenient c = λ k memory f.
    c.shares_slot.ensures (unfinished c.args.header.now k) f.commands ∙ (rw (sym c.is_lenient.ensures ∙ c.if-not-is_lenient.true) (with_true _))
