use Rattle.controller_model.proofs.Laws.{◌≡◌, ◌<◌, ◌∙◌, Some, length, length-set, slice_get, refl, arith, read_at, ends_here, goes_on}
use Rattle.controller_model.proofs.declared.Declarations.withdraw_from.Goals as goal

pub returns-then-ends : goal.returns-then-ends
returns-then-ends c =
    let items = c.loop-place.self.blocks.items in
    let p = c.loop-place.place in
    let inside : p < length items = omega (arith, c.loop-place-test.true, c.loop-place.invariant.many) in
    let at : slice_get items p ≡ Some c.index.result.now = read_at items p p c.index.result.now refl inside c.index.ensures in
    ends_here items p c.index.result.now at c.if-ends.true ∙ c.loop-place.invariant.onward

pub loop-place-preserved : goal.loop-place-preserved
loop-place-preserved c =
    let items = c.loop-place.self.blocks.items in
    let p = c.loop-place.place in
    let inside : p < length items = omega (arith, c.loop-place-test.true, c.loop-place.invariant.many) in
    let at : slice_get items p ≡ Some c.index.result.now = read_at items p p c.index.result.now refl inside c.index.ensures in
    grind (arith, goes_on, length-set)
