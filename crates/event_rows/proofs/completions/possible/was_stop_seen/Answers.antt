use Rattle.event_rows.proofs.Words.{ap, sym, ◌∙◌, was_stop_seen}
use Rattle.event_rows.proofs.CommandCompletions.Ends.{no_stop}
use Rattle.event_rows.proofs.completions.possible.was_stop_seen.Goals as goal

pub returns-in-StopEndpoint : goal.returns-in-StopEndpoint
unfolding was_stop_seen
returns-in-StopEndpoint c = λ k f. c.stop_seen.ensures k f ∙ ap (λ x. was_stop_seen k x) (sym c.in-StopEndpoint.is)

pub returns-in_default : goal.returns-in_default
returns-in_default c = λ k f. no_stop k c.args.command.now c.in_default.not-StopEndpoint
