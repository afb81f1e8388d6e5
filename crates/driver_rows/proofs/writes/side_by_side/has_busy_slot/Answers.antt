use Rattle.driver_rows.proofs.Words.{◌≡◌, ◌∙◌, false, sym, ap, refl, fun_ext, list_any, unfinished, has_busy_slot, is_busy, shares_slot}
use Rattle.commands.specs.Command.{name_one_slot}
use Rattle.commands.specs.SideBySide.{exclude}
use Rattle.ownership_rules.specs.Commands.{is_busy_by_slot}
use Rattle.ownership_rules.specs.Older.{is_busy_before}
use Rattle.driver_rows.proofs.MemoryWrites.BesideOthers.{none_by_slot, none_shares}
use Rattle.driver_rows.proofs.writes.side_by_side.has_busy_slot.Goals as goal

pub returns-then-not-shares_slot : goal.returns-then-not-shares_slot
unfolding has_busy_slot is_busy_before is_busy is_busy_by_slot shares_slot
returns-then-not-shares_slot g c = λ k f fit fits low.
    let all = unfinished c.args.header.now k in
    let none : list_any (name_one_slot c.args.command.now) all ≡ false = sym (c.shares_slot.ensures all f.commands) ∙ c.if-not-shares_slot.true in
    rw (none, none_by_slot c.args.command.now all none, none_shares k.memory c.args.command.now all none) refl

pub returns-then-is_busy_before : goal.returns-then-is_busy_before
unfolding has_busy_slot
returns-then-is_busy_before g c = λ k f fit fits low. c.if-is_busy_before.true ∙ (rw (sym (c.is_busy_before.ensures k _ f) ∙ c.if-is_busy_before.true) refl)

pub returns-else-is_busy_before : goal.returns-else-is_busy_before
unfolding has_busy_slot is_busy
returns-else-is_busy_before g c = λ k f fit fits low.
    let all = unfinished c.args.header.now k in
    c.is_busy.ensures all f.commands fit fits low ∙ ap (λ m. list_any (exclude m c.args.command.now) all) (sym (fun_ext f.words))
    ∙ (rw (sym (c.is_busy_before.ensures k _ f) ∙ c.if-is_busy_before.false) refl)
