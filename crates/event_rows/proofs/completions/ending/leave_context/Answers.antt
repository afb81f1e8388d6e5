use Rattle.event_rows.proofs.Laws.{◌∙◌, ℕ, Option, sym, subst, filter_map, slots, HoldsAreas, devices_disabled, devices_failed, devices_others, Among, among_slots, put_none}
use Rattle.event_rows.proofs.completions.ending.leave_context.Goals as goal

pub returns-then-code-ne1 : goal.returns-then-code-ne1
returns-then-code-ne1 c = λ h k n f are holds.
    subst (λ (g : ℕ → Option ℕ). HoldsAreas n (filter_map g slots) c.args.contexts.now) (devices_failed h k c.args.block c.args.command.now (λ e. c.if-code-ne1.true (c.code.ensures ∙ e))) holds

pub returns-in_default : goal.returns-in_default
returns-in_default c = λ h k n f are holds.
    subst (λ (g : ℕ → Option ℕ). HoldsAreas n (filter_map g slots) c.args.contexts.now)
    (devices_others h k c.args.block c.args.command.now (sym c.code.ensures ∙ c.if-code-ne1.false) c.in_default.not-DisableSlot) holds

pub returns-in-Some : goal.returns-in-Some
returns-in-Some c = λ h k n f are holds.
    let s = c.in-DisableSlot.slot in
    let has = sym (c.device.ensures k f) ∙ c.in-Some.is in
    let among : Among k.device s slots c.in-Some.address = among_slots k.device s c.in-Some.address has (are s c.in-Some.address has).0 (are s c.in-Some.address has).1 in
    let left = c.remove.ensures n among.before among.after (subst (λ xs. HoldsAreas n xs c.args.contexts.now) among.old holds) in
    subst (λ (g : ℕ → Option ℕ). HoldsAreas n (filter_map g slots) c.remove.new.self)
    (devices_disabled h k c.args.block c.args.command.now (sym c.code.ensures ∙ c.if-code-ne1.false) s c.in-DisableSlot.is)
    (subst (λ xs. HoldsAreas n xs c.remove.new.self) (sym among.new) left)

pub returns-in_default-device : goal.returns-in_default-device
returns-in_default-device c = λ h k n f are holds.
    let s = c.in-DisableSlot.slot in
    let none = sym (c.device.ensures k f) ∙ c.in_default-device.is in
    subst (λ (g : ℕ → Option ℕ). HoldsAreas n (filter_map g slots) c.args.contexts.now)
    (sym (put_none k.device s none) ∙ devices_disabled h k c.args.block c.args.command.now (sym c.code.ensures ∙ c.if-code-ne1.false) s c.in-DisableSlot.is) holds
