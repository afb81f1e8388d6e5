use Rattle.trace_record.proofs.Laws.{ap, sym, changed_by, Slot, follows_device}
use Rattle.trace_record.proofs.device_record.kept.DeviceRecord.leave_device.Goals as goal

pub returns : goal.returns
unfolding changed_by
returns c = λ h command k f.
    follows_device k c.args.self.now c.set_slot.new.self f c.args.slot _ c.set_slot.ensures (sym (ap (λ (x : Slot). x.state) c.slot-kept.ensures))
