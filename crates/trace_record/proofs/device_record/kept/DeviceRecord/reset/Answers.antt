use Rattle.trace_record.proofs.BaseWords.{changed_by}
use Rattle.trace_record.proofs.device_record.kept.DeviceRecord.reset.Goals as goal

pub returns : goal.returns
unfolding changed_by
returns c = λ h command k f. c.set_state.ensures h k f
