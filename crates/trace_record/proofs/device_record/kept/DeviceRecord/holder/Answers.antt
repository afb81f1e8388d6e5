use Rattle.trace_record.proofs.Laws.{arith, eq-eqb, false≢true, Endpoint, nat_eq, option_eq, its_number}
use Rattle.trace_record.proofs.device_record.kept.DeviceRecord.holder.Goals as goal

pub returns-then-number-clause-none : goal.returns-then-number-clause-none
returns-then-number-clause-none c = grind (arith, its_number)

pub returns-else-eq-clause-none : goal.returns-else-eq-clause-none
returns-else-eq-clause-none c = grind (arith, its_number, Endpoint, false≢true, option_eq, nat_eq, eq-eqb)
