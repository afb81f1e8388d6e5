use Rattle.controller_model.proofs.Laws.{◌≡◌, ◌<◌, ◌∙◌, length, unwrap_or, set, ap, sym, subst, refl, arith, put, slot_success, SlotState, FollowsSlots, read_at, slots_state}
use Rattle.controller_model.proofs.slots.go_on.Goals as goal

pub returns-clause-change : goal.returns-clause-change
returns-clause-change c = λ h words w f.
    let inside : c.args.slot < length c.args.kept.now.slots.items = omega (arith, c.args.kept.now.slots_many, c.ranges.slot) in
    let old = f.slots.each c.args.slot c.index_mut-kept_slot.result.now
    (read_at c.args.kept.now.slots.items c.from.result c.args.slot c.index_mut-kept_slot.result.now c.from.ensures inside c.index_mut-kept_slot.ensures.value) in
    let value : c.unwrap_or-kept_slot.result ≡ unwrap_or (slot_success c.args.command.now (w.slot_state c.args.slot)) (w.slot_state c.args.slot) =
    c.unwrap_or-kept_slot.ensures ∙ ap (λ o. unwrap_or o c.index_mut-kept_slot.result.now.state) c.after.ensures
    ∙ sym (ap (λ s. unwrap_or (slot_success c.args.command.now s) s) old.0) in
    let P : SlotState → Type 0 = λ s. FollowsSlots (set c.args.kept.now.slots.items c.from.result (record { state = c.unwrap_or-kept_slot.result; scribbles = c.index_mut-kept_slot.result.now.scribbles })) (put w.slot_state c.args.slot s) w.scribbles in
    assumption (subst P value
    (slots_state c.args.kept.now.slots.items w.slot_state w.scribbles c.from.result c.args.slot c.index_mut-kept_slot.result.now _ c.from.ensures inside c.index_mut-kept_slot.ensures.value refl f.slots))
