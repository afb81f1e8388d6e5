use Rattle.trace_record.proofs.Laws.{arith, unwrap_or, is_some, register_or_zero, Dcbaap, below_entries, no_slot, one_slot}
use Rattle.trace_record.proofs.trace_record.TraceRecord.is_in_entry.Goals as goal

pub returns-then-address-base : goal.returns-then-address-base
returns-then-address-base c = grind (arith, register_or_zero, Dcbaap, unwrap_or, below_entries)

pub returns-then-slot-eq0 : goal.returns-then-slot-eq0
returns-then-slot-eq0 c = grind (arith, register_or_zero, Dcbaap, unwrap_or, no_slot)

pub returns : goal.returns
returns c = grind (arith, register_or_zero, Dcbaap, unwrap_or, is_some, one_slot)
