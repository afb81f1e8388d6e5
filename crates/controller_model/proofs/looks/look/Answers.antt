use Rattle.controller_model.proofs.Laws.{◌≡◌, ◌<◌, ◌∙◌, length, sym, arith, block_at, looked, read_at}
use Rattle.controller_model.proofs.looks.look.Goals as goal

pub returns-then-not-state-clause-step : goal.returns-then-not-state-clause-step
unfolding looked
returns-then-not-state-clause-step g c = λ w f.
    let inside : c.args.ring < length c.args.kept.now.rings.items = omega (arith, c.args.kept.now.rings_many, c.ranges.ring) in
    let old = f.rings.each c.args.ring c.index-state.result.now
    (read_at c.args.kept.now.rings.items c.from.result c.args.ring c.index-state.result.now c.from.ensures inside c.index-state.ensures) in
    simp (old.active ∙ c.if-not-state.true) tt

pub returns-clause-step : goal.returns-clause-step
unfolding looked
returns-clause-step g c = λ w f.
    let inside : c.args.ring < length c.args.kept.now.rings.items = omega (arith, c.args.kept.now.rings_many, c.ranges.ring) in
    let old = f.rings.each c.args.ring c.index-state.result.now
    (read_at c.args.kept.now.rings.items c.from.result c.args.ring c.index-state.result.now c.from.ensures inside c.index-state.ensures) in
    let block : block_at w.memory (w.pointer_of c.args.ring) ≡ c.block_at-block.result =
    (λ i. block_at ((f.held i).memory) (old.pointer i)) ∙ sym c.block_at-block.ensures in
    simp (old.active ∙ c.if-not-state.false, block) (c.look_at.ensures.step c.args.live.now (g.M.WordMemory.words c.args.memory.now) w c.ring_with-there.ensures old.pointer old.cycle f)
