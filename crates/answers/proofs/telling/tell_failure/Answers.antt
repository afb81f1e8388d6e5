use Rattle.answers.proofs.telling.tell_failure.Goals as goal

pub tell-requires : goal.tell-requires
tell-requires g c = rw c.from.ensures c.note_on_failure-note.ensures.answered

pub returns-clause-told : goal.returns-clause-told
returns-clause-told g c = rw c.from.ensures at c.tell.ensures.told
