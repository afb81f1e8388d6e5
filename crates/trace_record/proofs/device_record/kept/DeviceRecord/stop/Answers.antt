use Rattle.trace_record.proofs.Laws.{Stopped, changed_by, in_state, follows_held}
use Rattle.trace_record.proofs.device_record.kept.DeviceRecord.stop.Goals as goal

pub returns : goal.returns
unfolding changed_by
returns c = λ h command k f. follows_held h (in_state h k c.args.slot c.args.index Stopped) c.set_state.new.self (c.set_state.ensures h k f) (k.ring_of c.args.slot c.args.index)
