use Rattle.controller_model.proofs.Laws.{◌<◌, length, refl, arith, with_slots, slots_allow}
use Rattle.controller_model.proofs.looks.allow_slot.Goals as goal

pub returns : goal.returns
returns c = λ h words w f.
    let inside : c.args.slot < length c.args.kept.now.slots.items = omega (arith, c.args.kept.now.slots_many, c.ranges.slot) in
    with_slots (slots_allow c.args.kept.now.slots.items w.slot_state w.scribbles c.from.result c.args.slot c.index_mut-state.result.now _ c.from.ensures inside
    c.index_mut-state.ensures.value refl refl f.slots) (assumption)
