use Rattle.controller_model.proofs.Laws.{◌∙◌, ap, length, refl, sym, reset, endpoints_left, rings_left, slots_left, written_over}
use Rattle.controller_model.proofs.resets.reset.Goals as goal

pub returns : goal.returns
unfolding reset
returns c = λ h words w f.
    let k = c.args.kept.now in
    let rings = written_over k.rings.len c.leave_rings.new.rings k.rings.items (c.leave_rings.auto.rings ∙ ap length c.deref_mut.ensures.value) (sym (ap length c.deref_mut.ensures.value) ∙ c.deref_mut.ensures.len) in
    let slots = written_over k.slots.len c.disable_slots.new.slots k.slots.items (c.disable_slots.auto.slots ∙ ap length c.deref_mut-2.ensures.value) (sym (ap length c.deref_mut-2.ensures.value) ∙ c.deref_mut-2.ensures.len) in
    let endpoints = written_over k.endpoints.len c.disable_endpoints.new.endpoints k.endpoints.items (c.disable_endpoints.auto.endpoints ∙ ap length c.deref_mut-3.ensures.value) (sym (ap length c.deref_mut-3.ensures.value) ∙ c.deref_mut-3.ensures.len) in
    record {
      progress = record { steps = f.progress.steps; started = refl; stopped = f.progress.stopped; halting = refl; halted = refl };
      registers = record { dcbaap = refl; config = refl };
      held = f.held;
      beyond = f.beyond;
      rings = rw rings (rings_left h w k.rings.items c.leave_rings.new.rings (c.leave_rings.auto.rings ∙ ap length c.deref_mut.ensures.value) (rw c.deref_mut.ensures.value at c.leave_rings.ensures) f.rings);
      slots = rw slots (slots_left w _ _ c.disable_slots.ensures);
      endpoints = rw endpoints (endpoints_left w _ _ c.disable_endpoints.ensures);
      events = record { posted = refl; reads = refl; dequeue = refl };
      under_way = refl;
      looked = f.looked;
      nowhere = f.nowhere;
    }
