use Rattle.trace_record.proofs.Laws.{◌∙◌, sym, none_shares, shared_by}
use Rattle.trace_record.proofs.device_record.unfinished.UnfinishedCommands.shares_slot.Goals as goal

pub returns-in-None : goal.returns-in-None
returns-in-None c = λ all f. sym (none_shares all c.args.command.now (sym c.slot.ensures ∙ c.in-None.is))

pub returns-in-Some : goal.returns-in-Some
returns-in-Some c = λ all f. c.has_command.ensures all f ∙ shared_by c.args.self.now all f c.args.command.now c.in-Some.slot (sym c.slot.ensures ∙ c.in-Some.is)
