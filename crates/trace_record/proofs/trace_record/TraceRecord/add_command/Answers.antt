use Rattle.trace_record.proofs.Laws.{arith, Option, Command, IsPlacedSo, with_command, none_of_place, nothing_there}
use Rattle.trace_record.proofs.trace_record.TraceRecord.add_command.Goals as goal

pub returns-then-is_some : goal.returns-then-is_some
returns-then-is_some c = grind (arith, Option, Command, IsPlacedSo, with_command)

pub returns-else-is_some : goal.returns-else-is_some
returns-else-is_some c = grind (arith, none_of_place, nothing_there, Option, Command, IsPlacedSo, with_command)
