use Rattle.leases.proofs.Laws.{sym, subst, Row, HoldsAll, IsNextRow, IsOtherRow, grown, on_more, other_held}
use Rattle.leases.proofs.rows.other_rows.note_other_row.Goals as goal

pub returns-in-Reg : goal.returns-in-Reg
returns-in-Reg g c =
    on_more c.note_register.result (λ notes. λ list k ts memory.
    subst (λ (r : Row). IsOtherRow r → IsNextRow c.args.header.now k ts r c.args.t.now memory → HoldsAll (g.B.LeaseLog.holds list) c.args.header.now ts c.args.book.now c.args.ranges.now →
    HoldsAll (g.B.LeaseLog.holds list) c.args.header.now (grown c.args.header.now k r c.args.number ts) c.note_register.new.book c.note_register.new.ranges)
    (sym c.in-Reg.is) (λ other. notes list k ts memory)) c.note_register.ensures

pub returns-in_default : goal.returns-in_default
returns-in_default g c = λ list k ts memory other.
    other_held c.args.header.now c.requires.headed k ts c.args.number c.args.t.now memory c.args.book.now c.args.ranges.now c.args.row.now other (λ r v is. c.in_default.not-Reg r v is)
