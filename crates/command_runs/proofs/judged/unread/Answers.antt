use Rattle.command_runs.proofs.judged.unread.Goals as goal

pub returns-clause-noted : goal.returns-clause-noted
returns-clause-noted c = rw c.from.ensures c.note_on_failure.ensures.answered
