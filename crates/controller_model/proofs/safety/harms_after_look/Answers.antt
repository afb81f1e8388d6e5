use Rattle.controller_model.proofs.Laws.{◌≡◌, ◌<◌, ◌∙◌, Some, length, slice_get, ap, refl, sym, arith, read_at, harms_looked, look_is}
use Rattle.controller_model.proofs.safety.harms_after_look.Goals as goal

pub returns : goal.returns
returns g c = λ live w v before made f.
    let h = c.args.header.now in
    let r = c.args.ring in
    let at = look_is h live w v r made in
    let below : r < length c.args.kept.now.rings.items = omega (arith, c.args.kept.now.rings_many) in
    let there : slice_get c.args.kept.now.rings.items r ≡ Some c.index-state.result.now =
    read_at c.args.kept.now.rings.items c.from.result r c.index-state.result.now c.from.ensures below c.index-state.ensures in
    let ring = f.rings.each r c.index-state.result.now there in
    let none = sym c.is_any.ensures ∙ c.if-is_any.false in
    let shows = c.if-shows_harm.false in
    harms_looked h w v r c.args.before _ before at.0 none (λ known. c.shows_harm.ensures.order h r v ring known shows) (λ known. c.shows_harm.ensures.words h r v ring known shows)
    (c.shows_harm.ensures.waits h r v ring (sym (ap (λ y. y.memory) f.held)) shows) refl refl refl
    (λ is. c.with-inside.ensures.here (c.is_inside.ensures ∙ sym ring.history.inside ∙ is)) (λ q apart may. c.with-inside.ensures.others q (c.without-others.ensures q apart may))
