use Rattle.controller_model.proofs.Laws.{◌≡◌, ◌∙◌, is_some, ap, sym, refl, false≢true, Xfer, ring_having, shape_of, shape_or, bound, freed, freed_has, freed_had, having_known, placed_none, placed_some}
use Rattle.controller_model.proofs.BindingSteps.{placed_is}
use Rattle.controller_model.proofs.bindings.place.Goals as goal

pub returns-in-None-clause-change : goal.returns-in-None-clause-change
returns-in-None-clause-change c = λ h words w v lists made f.
    absurd (placed_none w c.args.slot c.args.index c.args.pointer c.args.cycle c.args.state (ring_having c.args.header.now c.args.pointer) v (sym c.ring_having.ensures ∙ c.in-None.is) made)

pub returns-in-None-ring_with-clause-change : goal.returns-in-None-ring_with-clause-change
returns-in-None-ring_with-clause-change c = λ h words w v lists made f.
    let has = sym c.ring_having.ensures ∙ c.in-Some.is in
    absurd (false≢true (ap (λ o. is_some o) c.in-None-ring_with.ensures ∙ having_known c.args.header.now c.args.pointer c.in-Some.ring has))

pub returns-clause-change : goal.returns-clause-change
unfolding shape_of
returns-clause-change c = λ h words w v lists made f.
    let has = sym c.ring_having.ensures ∙ c.in-Some.is in
    let got = placed_some w c.args.slot c.args.index c.args.pointer c.args.cycle c.args.state (ring_having c.args.header.now c.args.pointer) c.in-Some.ring v has made in
    let o = w.ring_of c.args.slot c.args.index in
    let u = freed w c.args.slot c.args.index o in
    let now = c.free.ensures.change h words w f in
    let is : bound u c.args.slot c.args.index c.in-Some.ring c.args.pointer c.args.cycle c.args.state ≡ v =
    sym (placed_is w c.args.slot c.args.index c.in-Some.ring c.args.pointer c.args.cycle c.args.state o refl) ∙ got.is in
    rw is at
    (c.in_ok-bind.ensures.change h words u (ap (λ p. shape_or Xfer p) (sym (lists c.in-Some.ring _ (sym c.in-Some-ring_with.ensures)))) (freed_has w c.args.slot c.args.index o refl)
    (freed_had w c.args.slot c.args.index o c.in-Some.ring ∙ got.free) now)
