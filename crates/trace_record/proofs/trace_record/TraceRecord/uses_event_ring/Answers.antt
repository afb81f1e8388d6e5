use Rattle.trace_record.proofs.Laws.{arith}
use Rattle.ownership_rules.specs.Rings.{is_in_use}
use Rattle.ownership_rules.specs.Registers.{is_written}
use Rattle.trace_record.proofs.trace_record.TraceRecord.uses_event_ring.Goals as goal

pub returns-then-is_started : goal.returns-then-is_started
unfolding is_in_use
returns-then-is_started c = λ h k id f. grind (arith, c.is_started.ensures k f)

pub returns-else-is_started : goal.returns-else-is_started
unfolding is_in_use is_written
returns-else-is_started c = λ h k id f. grind (arith, c.is_started.ensures k f, c.value.ensures k f, c.is_some.ensures)
