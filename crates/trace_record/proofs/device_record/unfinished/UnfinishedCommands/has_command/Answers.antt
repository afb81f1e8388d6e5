use Rattle.trace_record.proofs.Laws.{◌∙◌, ap, arith, sym, is_some, nat_lt, read_count, counts_named, some_named}
use Rattle.trace_record.proofs.device_record.unfinished.UnfinishedCommands.has_command.Goals as goal

pub returns-then-is_some : goal.returns-then-is_some
returns-then-is_some c = λ all f.
    c.if-is_some.true ∙ sym (some_named c.args.self.now all f c.args.slot 0 (ap is_some (sym c.kept_of_slot.ensures) ∙ sym c.is_some.ensures ∙ c.if-is_some.true))

pub returns-else-is_some : goal.returns-else-is_some
returns-else-is_some c = grind (arith, read_count, nat_lt, counts_named, is_some)
