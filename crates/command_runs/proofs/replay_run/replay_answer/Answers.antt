use Rattle.command_runs.proofs.Laws.{text_of, beside_right}
use Rattle.command_runs.proofs.replay_run.replay_answer.Goals as goal

pub returns-in-Ok : goal.returns-in-Ok
returns-in-Ok c = beside_right (text_of c.args.trace.now) c.in-Ok.schedule c.args.text.now c.replay_of.result c.in-Ok.ensures.read c.replay_of.ensures
