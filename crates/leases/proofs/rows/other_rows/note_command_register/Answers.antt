use Rattle.leases.proofs.Laws.{◌∙◌, refl, sym, held_still, lent_register, Usbcmd}
use Rattle.leases.proofs.rows.other_rows.note_command_register.Goals as goal

pub returns-then-is_reset : goal.returns-then-is_reset
returns-then-is_reset g c = λ list k ts memory next all.
    c.note_reset.ensures list k ts memory c.args.value (sym (c.is_reset.ensures k next.followed.registers) ∙ c.if-is_reset.true) next all

pub returns-else-is_reset : goal.returns-else-is_reset
returns-else-is_reset g c = λ list k ts memory next all.
    held_still c.args.header.now c.requires.headed k ts c.args.book.now c.args.ranges.now _ c.args.number
    (lent_register c.args.header.now c.requires.headed k ts c.args.number c.args.t.now memory Usbcmd c.args.value (sym (c.is_reset.ensures k next.followed.registers) ∙ c.if-is_reset.false) refl next) all
