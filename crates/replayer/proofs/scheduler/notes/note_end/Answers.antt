use Rattle.replayer.proofs.MiddleLaws.{◌∙◌, ◌∷◌, ◌++◌, [], ap, append_assoc, Data, Begun, Placed, any_notes, on_more}
use Rattle.replayer.proofs.scheduler.notes.note_end.Goals as goal

pub returns : goal.returns
unfolding any_notes
returns c =
    on_more c.add_note-2.result (λ second. λ h k.
    second ∙ ap (λ l. l ++ Placed c.args.id (Data 0) ∷ []) c.in_ok-add_note.ensures ∙ append_assoc c.args.list.now.items (Begun c.args.id ∷ []) (Placed c.args.id (Data 0) ∷ [])) c.add_note-2.ensures
