use Rattle.leases.proofs.Laws.{subst, sym, HoldsAll, IsNextRow, Reg, Register, grown, held_still, lent_register, on_more, other_table, resets_none}
use Rattle.leases.proofs.rows.other_rows.note_register.Goals as goal

pub returns-in-Erstba : goal.returns-in-Erstba
returns-in-Erstba g c = on_more c.note_table.result (λ notes. λ list k ts memory.
    subst (λ (r : Register). IsNextRow c.args.header.now k ts (Reg r c.args.value) c.args.t.now memory → HoldsAll (g.B.LeaseLog.holds list) c.args.header.now ts c.args.book.now c.args.ranges.now →
    HoldsAll (g.B.LeaseLog.holds list) c.args.header.now (grown c.args.header.now k (Reg r c.args.value) c.args.number ts) c.note_table.new.book c.note_table.new.ranges) (sym c.in-Erstba.is) (notes list k ts memory))
    c.note_table.ensures

pub returns-in-Usbcmd : goal.returns-in-Usbcmd
returns-in-Usbcmd g c = λ list k ts memory.
    subst (λ (r : Register). IsNextRow c.args.header.now k ts (Reg r c.args.value) c.args.t.now memory → HoldsAll (g.B.LeaseLog.holds list) c.args.header.now ts c.args.book.now c.args.ranges.now →
    HoldsAll (g.B.LeaseLog.holds list) c.args.header.now (grown c.args.header.now k (Reg r c.args.value) c.args.number ts) c.note_command_register.new.book c.args.ranges.now) (sym c.in-Usbcmd.is)
    (c.note_command_register.ensures list k ts memory)

pub returns-in_default : goal.returns-in_default
returns-in_default g c = λ list k ts memory next all.
    let r = c.args.register in
    held_still c.args.header.now c.requires.headed k ts c.args.book.now c.args.ranges.now _ c.args.number
    (lent_register c.args.header.now c.requires.headed k ts c.args.number c.args.t.now memory r c.args.value (resets_none k r c.args.value c.in_default.not-Usbcmd) (other_table k r c.args.value c.in_default.not-Erstba) next) all
