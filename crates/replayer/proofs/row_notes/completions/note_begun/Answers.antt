use Rattle.replayer.proofs.MiddleLaws.{Begun, none_left}
use Rattle.replayer.proofs.RowNotes.Lists.{one_more}
use Rattle.replayer.proofs.row_notes.completions.note_begun.Goals as goal

pub loop-ring-preserved : goal.loop-ring-preserved
loop-ring-preserved c =
    one_more Begun c.args.rings.now c.loop-ring.ring-index c.loop-ring.notes.items c.add_note.new.notes.items _ c.loop-ring-test.true c.in_ok-add_note.ensures c.loop-ring.invariant

pub returns : goal.returns
returns c = none_left Begun c.args.rings.now c.loop-ring.ring-index c.loop-ring.notes.items _ c.loop-ring-test.false c.loop-ring.invariant
