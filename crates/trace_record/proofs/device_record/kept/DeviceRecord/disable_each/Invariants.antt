use Rattle.trace_record.proofs.BaseWords.{◌&&◌, nat_lt, named_by, IsDisabled}
use Rattle.trace_record.proofs.device_record.kept.DeviceRecord.disable_each.Given as goal

-- those below the index are disabled
abbrev pub invariant-loop-index : goal.invariant-loop-index
invariant-loop-index l = IsDisabled l.initial.self l.self l.slot (λ i. named_by l.named i && nat_lt i l.index)
