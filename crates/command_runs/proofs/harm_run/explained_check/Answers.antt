use Rattle.command_runs.proofs.harm_run.explained_check.Goals as goal

pub returns : goal.returns
returns c = c.as_told.ensures.note c.args.answer.now
