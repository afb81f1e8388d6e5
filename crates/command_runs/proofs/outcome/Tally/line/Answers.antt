use Rattle.command_runs.proofs.outcome.Tally.line.Goals as goal

pub returns : goal.returns
returns c = rw (c.from.ensures, c.from-2.ensures, c.from-3.ensures, c.from-4.ensures, c.from-5.ensures) at c.format.ensures.ok
