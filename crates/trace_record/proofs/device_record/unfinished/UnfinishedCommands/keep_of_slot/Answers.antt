use Rattle.trace_record.proofs.Laws.{arith, is_addressing, at_most_one, few_addressing}
use Rattle.trace_record.proofs.device_record.unfinished.UnfinishedCommands.keep_of_slot.Goals as goal

pub overflow_add-self : goal.overflow_add-self
overflow_add-self c = omega (arith, few_addressing c.args.self.now.by_slot.items c.args.self.now.slots_many, c.args.self.now.addressing_all, c.addressing_count.ensures, at_most_one (is_addressing c.args.command))
