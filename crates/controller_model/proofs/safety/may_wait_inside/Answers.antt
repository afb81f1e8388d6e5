use Rattle.controller_model.proofs.Laws.{◌≡◌, ◌<◌, ◌∙◌, ◌&&◌, ℕ, false, Some, length, slice_get, ap, sym, subst, arith, eqb-true, waits, is_inside_descriptor, read_at}
use Rattle.controller_model.proofs.safety.may_wait_inside.Goals as goal

pub returns-in-On : goal.returns-in-On
returns-in-On g c = λ h w f none r may.
    let ring = c.in-On.ring in
    let below : ring < length c.args.kept.now.rings.items = omega (arith, c.args.kept.now.rings_many) in
    let there : slice_get c.args.kept.now.rings.items ring ≡ Some c.index.result.now =
    read_at c.args.kept.now.rings.items c.from.result ring c.index.result.now c.from.ensures below c.index.ensures in
    let one = f.rings.each ring c.index.result.now there in
    let same : r ≡ ring = eqb-true r ring (rw c.in-On.is at may) in
    subst (λ (n : ℕ). (waits w n && is_inside_descriptor (w.events n)) ≡ false) (sym same)
    (sym (c.waits_inside.ensures h ring w one (sym (ap (λ y. y.memory) f.held))) ∙ none)
