use Rattle.controller_model.proofs.Laws.{◌≡◌, ◌==◌, ◌&&◌, ◌∙◌, ℕ, refl, arith, nat_lt, has_isochronous, input_add_flag, typed, one_more, none_below, all_below, typed_below, typed_none, typed_same, typed_twice}
use Rattle.controller_model.proofs.types.type_added.Goals as goal

pub loop-index-init : goal.loop-index-init
loop-index-init g c = record {
  change = λ h words w f.
      let memory = g.M.WordMemory.words c.args.memory.now in
      let isochronous = has_isochronous c.args.size memory c.args.context in
      rw (← (typed_same w c.args.slot isochronous _ _ (none_below (input_add_flag memory c.args.context)) ∙ typed_none w c.args.slot isochronous)) at f;
  rest = record { progress = refl; events = refl };
}

pub loop-index-preserved : goal.loop-index-preserved
loop-index-preserved g c = record {
  change = λ h words w f.
      let memory = g.M.WordMemory.words c.args.memory.now in
      let isochronous = has_isochronous c.args.size memory c.args.context in
      let adds = input_add_flag memory c.args.context in
      let p = λ (i : ℕ). adds i && nat_lt i c.loop-index.index in
      let now = c.type_one.ensures.change h words (typed w c.args.slot p isochronous) (c.loop-index.invariant.change h words w f) in
      rw (typed_twice w c.args.slot isochronous p (λ i. adds i && i == c.loop-index.index) ∙ typed_same w c.args.slot isochronous _ _ (one_more adds c.loop-index.index)) at now;
  rest = grind arith;
}

pub returns-clause-change : goal.returns-clause-change
returns-clause-change g c = λ h words w f.
    let memory = g.M.WordMemory.words c.args.memory.now in
    let isochronous = has_isochronous c.args.size memory c.args.context in
    let adds = input_add_flag memory c.args.context in
    let end : c.loop-index.index ≡ 32 = omega (arith, c.loop-index.auto.index-end, c.loop-index-test.false) in
    typed_below h words c.loop-index.kept w c.args.slot isochronous _ adds
    (λ i below. all_below adds c.loop-index.index i (omega (arith, below, end))) (c.loop-index.invariant.change h words w f)
