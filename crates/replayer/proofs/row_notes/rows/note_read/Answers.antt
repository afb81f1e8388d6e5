use Rattle.replayer.proofs.MiddleLaws.{◌∙◌, append-nil, sym, on_more, read_notes}
use Rattle.replayer.proofs.row_notes.rows.note_read.Goals as goal

pub returns-then-not-is_first_halt : goal.returns-then-not-is_first_halt
unfolding read_notes
returns-then-not-is_first_halt c = λ h k f. rw (sym (c.is_first_halt.ensures h k f) ∙ c.if-not-is_first_halt.true) (sym (append-nil c.args.notes.now.items))

pub returns : goal.returns
unfolding read_notes
returns c = on_more c.add_note.result (λ added. λ h k f. rw (sym (c.is_first_halt.ensures h k f) ∙ c.if-not-is_first_halt.false) added) c.add_note.ensures
