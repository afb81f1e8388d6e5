use Rattle.controller_model.proofs.Laws.{◌∙◌, ap, sym, arith, changed_by_all, adds_end, all_made}
use Rattle.controller_model.proofs.effects.place_all.Goals as goal

pub loop-index-preserved : goal.loop-index-preserved
loop-index-preserved g c = record {
  change = λ h words d w final lists made f.
      let so = c.loop-index.invariant.change h words d w final lists made f in
      c.in_ok-place_added.ensures.change h words d so.world final lists so.second so.first;
  rest = grind arith;
}

pub returns-clause-change : goal.returns-clause-change
returns-clause-change g c = λ h words d w final lists made f.
    let so = c.loop-index.invariant.change h words d w final lists made f in
    let end = adds_end c.args.header.now.context_size (g.M.WordMemory.words c.args.memory.now) c.args.slot c.args.context c.loop-index.index
    (omega (arith, c.loop-index.auto.index-end, c.loop-index-test.false)) in
    rw (all_made c.args.header.now d so.world final (sym (ap (λ xs. changed_by_all c.args.header.now d so.world xs) end) ∙ so.second)) at so.first
