use Rattle.answers.proofs.Laws.{codes, plain_device}
use Rattle.answers.proofs.telling.output_note.Goals as goal

pub returns : goal.returns
returns c = plain_device (codes "standard output") _ _ c.in_ok-note.ensures
