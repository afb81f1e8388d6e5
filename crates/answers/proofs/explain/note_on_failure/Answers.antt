use Rattle.answers.proofs.Laws.{plain_answer, plain_device}
use Rattle.answers.proofs.explain.note_on_failure.Goals as goal

pub returns-clause-answered : goal.returns-clause-answered
returns-clause-answered c = λ _. plain_answer _ _ _ c.in_ok-note.ensures

pub returns-clause-device : goal.returns-clause-device
returns-clause-device c = λ _. plain_device _ _ _ c.in_ok-note.ensures
