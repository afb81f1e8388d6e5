use Rattle.trace_record.proofs.Laws.{Some, ap, sym, put, with_device, Slot, follows_beside, follows_device}
use Rattle.trace_record.proofs.device_record.kept.DeviceRecord.take_device.Goals as goal

pub returns : goal.returns
unfolding with_device
returns c = λ h k f.
    follows_beside (record k { device = put k.device c.args.slot (Some c.args.address) }) (with_device h k (Some (c.args.slot, c.args.address))) c.set_slot.new.self
    (follows_device k c.args.self.now c.set_slot.new.self f c.args.slot _ c.set_slot.ensures (sym (ap (λ (x : Slot). x.state) c.slot-kept.ensures)))
