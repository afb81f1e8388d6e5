use Rattle.replayer.proofs.MiddleLaws.{Placed, ◌∙◌, ◌++◌, ◌∷◌, [], ap, get_or, floor_note, none_left}
use Rattle.replayer.proofs.RowNotes.Lists.{one_more}
use Rattle.replayer.proofs.row_notes.rows.note_placed.Goals as goal

pub loop-ring-preserved : goal.loop-ring-preserved
unfolding floor_note
loop-ring-preserved c = λ k m f all.
    let h = c.args.header.now in
    let i = c.loop-ring.ring-index in
    let inside = c.loop-ring-test.true in
    let r = get_or c.args.placed.now i 0 in
    let floor = c.floor_of-spot.ensures h k m c.requires.headed c.requires.found f (all i 0 inside) in
    one_more (floor_note k) c.args.placed.now i c.loop-ring.notes.items c.add_note.new.notes.items _ inside
    (c.in_ok-add_note.ensures ∙ ap (λ s. c.loop-ring.notes.items ++ Placed r s ∷ []) floor) (c.loop-ring.invariant k m f all)

pub returns : goal.returns
returns c = λ k m f all.
    none_left (floor_note k) c.args.placed.now c.loop-ring.ring-index c.loop-ring.notes.items _ c.loop-ring-test.false (c.loop-ring.invariant k m f all)
