use Rattle.replayer.proofs.MiddleLaws.{arith, sym, ended, ended_clean, few, refused, started, stepped}
use Rattle.replayer.proofs.scheduler.notes.notes_of.Goals as goal

pub loop-row-init : goal.loop-row-init
loop-row-init g c = started c.in_ok-pass.pass c.new-list.result.items c.new-list.ensures.items c.in_ok-pass.ensures.passed

pub note_next-requires-clause-so_far : goal.note_next-requires-clause-so_far
note_next-requires-clause-so_far g c = few c.loop-row.invariant c.row-item.result c.loop-row-test.true (sym c.row-item.is) c.requires.within

pub returns-in-Err-Refused-clause-refused : goal.returns-in-Err-Refused-clause-refused
returns-in-Err-Refused-clause-refused g c =
    rw c.in-Err-Refused.refusal-is
    (refused c.loop-row.invariant c.row-item.result c.loop-row-test.true (sym c.row-item.is) c.in-Err-Refused.refusal (rw c.in-Err-Refused.field-0-is at c.in-Err-Refused.ensures.refused))

pub loop-row-preserved : goal.loop-row-preserved
loop-row-preserved g c =
    rw c.in_ok-add_note.ensures
    (stepped c.loop-row.invariant c.row-item.result c.loop-row-test.true (sym c.row-item.is) c.note_next.new.pass c.note_next.new.list.items c.in-Ok.ensures.passed c.in-Ok.ensures.noted)

pub returns-clause-clean : goal.returns-clause-clean
returns-clause-clean g c = ended_clean c.loop-row.invariant (omega (arith, c.loop-row.auto.row-index-end, c.loop-row-test.false))

pub returns-clause-notes : goal.returns-clause-notes
returns-clause-notes g c = ended c.loop-row.invariant (omega (arith, c.loop-row.auto.row-index-end, c.loop-row-test.false))
