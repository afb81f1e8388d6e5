use Rattle.command_runs.proofs.Laws.{text_of, harm_found}
use Rattle.command_runs.proofs.harm_run.found_harm.Goals as goal

pub harm_beside-requires : goal.harm_beside-requires
harm_beside-requires c = c.in-Ok.ensures.few

pub returns-in-Ok : goal.returns-in-Ok
returns-in-Ok c = harm_found c.args.text.now (text_of c.in-Ok.trace) c.args.row c.harm_beside.result c.in-Ok.ensures.read c.harm_beside.ensures
