use Rattle.replayer.proofs.Words.{completing_look}
use Rattle.replayer.proofs.row_notes.completions.completing_look.Goals as goal

pub returns-in-None : goal.returns-in-None
unfolding completing_look
returns-in-None c = λ h k is. rw (c.in-None.is, is)

pub returns-in-Some : goal.returns-in-Some
unfolding completing_look
returns-in-Some c = λ h k is. rw (c.in-Some.is, is)
