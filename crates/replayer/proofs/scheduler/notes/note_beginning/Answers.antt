use Rattle.replayer.proofs.MiddleLaws.{any_notes, on_more}
use Rattle.replayer.proofs.scheduler.notes.note_beginning.Goals as goal

pub returns : goal.returns
unfolding any_notes
returns c = on_more c.add_note.result (λ added. λ h k. added) c.add_note.ensures
