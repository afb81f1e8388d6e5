use Rattle.trace_record.proofs.Laws.{◌∙◌, sym, excluded_by, excluded_by_any}
use Rattle.trace_record.proofs.device_record.unfinished.UnfinishedCommands.is_busy_by_slot.Goals as goal

pub returns-in-None : goal.returns-in-None
returns-in-None c = λ all f. c.shares_slot.ensures all f ∙ excluded_by_any c.args.self.now all f c.args.command.now (sym c.endpoint.ensures ∙ c.in-None.is)

pub returns-in-Some : goal.returns-in-Some
returns-in-Some c = λ all f. c.excludes.ensures all f ∙ excluded_by c.args.self.now all f c.args.command.now _ _ (sym c.endpoint.ensures ∙ c.in-Some.is)
