use Rattle.replayer.proofs.MiddleLaws.{◌∙◌, ◌++◌, ap, refl, sym, TransferEvent, kind, Read, event_facts, stops_by_command, both_ok, alone, completed, completion_possible, notes_read, other_notes}
use Rattle.replayer.proofs.row_notes.rows.note_event.Goals as goal

pub returns-in_ok-note_report-in-TransferEvent : goal.returns-in_ok-note_report-in-TransferEvent
returns-in_ok-note_report-in-TransferEvent g c = λ k f d clean.
    let h = c.args.header.now in
    let b = c.args.event in
    let old = c.args.notes.now.items in
    let is = sym c.kind.ensures ∙ c.in-TransferEvent.is in
    let some = stops_by_command h c.requires.headed k b d clean is in
    alone h k (Read b) old c.note_report.new.notes.items c.new.result.items c.new.ensures.items
    (c.in_ok-note_report-in-TransferEvent.ensures k (g.M.WordMemory.words c.args.memory.now) f d some ∙ ap (λ l. old ++ l) (notes_read h k b TransferEvent is))

pub returns-in-CommandCompletion : goal.returns-in-CommandCompletion
returns-in-CommandCompletion g c =
    let h = c.args.header.now in
    let b = c.args.event in
    let is = sym c.kind.ensures ∙ c.in-CommandCompletion.is in
    both_ok _ _ _ c.note_completion.result (λ rings placed noted. λ k f d clean.
    let on = (event_facts h k b clean).started in
    completed h k b c.requires.headed d is c.args.notes.now.items c.note_completion.new.notes.items rings.items (placed k f d on (completion_possible h k b clean is)) (noted k f d on (completion_possible h k b clean is)))
    c.note_completion.ensures.placed c.note_completion.ensures.noted

pub returns-in_ok-add_note-in_default : goal.returns-in_ok-add_note-in_default
returns-in_ok-add_note-in_default g c = λ k f d clean.
    let h = c.args.header.now in
    let b = c.args.event in
    let old = c.args.notes.now.items in
    alone h k (Read b) old c.add_note.new.notes.items c.new-in_default.result.items c.new-in_default.ensures.items
    (c.in_ok-add_note-in_default.ensures
    ∙ ap (λ l. old ++ l) (other_notes h k b (kind b) (λ e. c.in_default.not-TransferEvent (c.kind.ensures ∙ e)) (λ e. c.in_default.not-CommandCompletion (c.kind.ensures ∙ e)) ∙ notes_read h k b (kind b) refl))
