use Rattle.command_runs.proofs.read_note.note_as_read.Goals as goal

pub returns-in_ok-note-in-Device : goal.returns-in_ok-note-in-Device
returns-in_ok-note-in-Device g c = rw (c.in-Device.is, c.broken.ensures.text) c.in_ok-note-in-Device.ensures

pub returns-in_ok-explained-in_default-2 : goal.returns-in_ok-explained-in_default-2
returns-in_ok-explained-in_default-2 g c = c.as_told.ensures.note c.args.answer.now
