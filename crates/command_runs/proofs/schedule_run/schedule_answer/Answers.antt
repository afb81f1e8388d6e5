use Rattle.command_runs.proofs.Words.{inr, text_of}
use Rattle.command_runs.proofs.schedule_run.schedule_answer.Goals as goal

pub scheduled_answer-requires : goal.scheduled_answer-requires
scheduled_answer-requires c = c.in-Ok.ensures.few

pub returns-in-Ok : goal.returns-in-Ok
returns-in-Ok c = inr (text_of c.in-Ok.trace, c.in-Ok.ensures.read, c.scheduled_answer.ensures)
