use Rattle.trace_record.proofs.Laws.{rules, code_told}
use Rattle.trace_record.proofs.device_record.kept.DeviceRecord.code_told.Goals as goal

pub returns : goal.returns
unfolding code_told
returns c = search rules
