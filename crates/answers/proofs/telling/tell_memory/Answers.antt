use Rattle.answers.proofs.telling.tell_memory.Goals as goal

pub returns-clause-told : goal.returns-clause-told
returns-clause-told g c = rw c.as_bytes.ensures.value at c.write_whole.ensures.beginning
