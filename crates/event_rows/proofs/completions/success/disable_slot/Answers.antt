use Rattle.event_rows.proofs.Words.{DeviceLeft, SlotGoesOn, Known, changed_by, changed_by_all}
use Rattle.event_rows.proofs.completions.success.disable_slot.Goals as goal

pub returns : goal.returns
unfolding changed_by_all
returns c = λ h k f.
    let d = c.args.command.now in
    let gone : Known = changed_by h d k (SlotGoesOn c.args.slot) in
    c.disable.ensures h d (changed_by h d gone (DeviceLeft c.args.slot)) (c.leave_device.ensures h d gone (c.go_on.ensures h k f))
