use Rattle.trace_record.proofs.Laws.{◌≡◌, ◌∙◌, unwrap_or, ap, sym, SlotState, slot_success, changed_by, Slot, follows_slot_state}
use Rattle.trace_record.proofs.device_record.kept.DeviceRecord.go_on.Goals as goal

pub returns : goal.returns
unfolding changed_by
returns c = λ h k f.
    let now : k.slot_state c.args.slot ≡ c.slot-kept.result.state = f.slot_state c.args.slot ∙ sym (ap (λ (x : Slot). x.state) c.slot-kept.ensures) in
    follows_slot_state k c.args.self.now c.set_slot.new.self f c.args.slot _ (unwrap_or (slot_success c.args.command.now (k.slot_state c.args.slot)) (k.slot_state c.args.slot))
    c.set_slot.ensures (ap (λ (s : SlotState). unwrap_or (slot_success c.args.command.now s) s) now ∙ sym c.gone_on.ensures)
    (sym (ap (λ (x : Slot). x.device) c.slot-kept.ensures))
