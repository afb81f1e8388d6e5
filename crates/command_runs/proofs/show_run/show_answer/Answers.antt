use Rattle.command_runs.proofs.Words.{inr, text_of}
use Rattle.command_runs.proofs.show_run.show_answer.Goals as goal

pub returns-in-Ok : goal.returns-in-Ok
returns-in-Ok c = inr (text_of c.in-Ok.trace, c.in-Ok.ensures.read, c.page_answer.ensures)
