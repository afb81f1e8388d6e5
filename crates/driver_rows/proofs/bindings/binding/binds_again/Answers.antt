use Rattle.driver_rows.proofs.Laws.{◌≡◌, Known, FitsMemory, HoldsContexts, ◌+◌, ◌||◌, ◌∙◌, ap, sym, arith, list_any, bindings_from, was_bound, again_is, bindings_at, bindings_end}
use Rattle.driver_rows.proofs.bindings.binding.binds_again.Goals.{After-was_bound}
use Rattle.driver_rows.proofs.bindings.binding.binds_again.Goals as goal

pub loop-index-init : goal.loop-index-init
loop-index-init g c = grind arith

-- what the bindings come to with the one that is asked
asked : (g : _) (c : After-was_bound g) (k : Known) → HoldsContexts k c.args.devices.now (g.M.WordMemory.words c.args.memory.now) → FitsMemory c.args.header.now.context_size c.args.command.now →
    list_any (was_bound k) (bindings_from c.args.header.now k c.args.command.now 1) ≡ (c.was_bound.result || list_any (was_bound k) (bindings_from c.args.header.now k c.args.command.now (c.loop-index.index + 1)))
asked g c k f fits = grind (arith, bindings_at, c.binding_in.ensures k c.args.command.now f.words (c.bound_by-bound.ensures c.args.header.now k f fits))

pub loop-index-preserved : goal.loop-index-preserved
loop-index-preserved g c = (
  c.next_bound-index-in-loop-index.ensures.set,
  λ k f fits. asked g (goal.at.loop-index-preserved g c).After-was_bound k f fits
      ∙ ap (λ b. b || list_any (was_bound k) (bindings_from c.args.header.now k c.args.command.now (c.loop-index.index + 1))) c.if-was_bound.false
      ∙ ap (list_any (was_bound k)) (c.next_bound-index-in-loop-index.ensures.rest c.args.header.now k c.args.command.now (c.bound_by-bound.ensures c.args.header.now k f fits)),
)

pub returns-then-was_bound : goal.returns-then-was_bound
returns-then-was_bound g c = λ k f fits.
    sym (asked g (goal.at.returns-then-was_bound g c).After-was_bound k f fits ∙ ap (λ b. b || list_any (was_bound k) (bindings_from c.args.header.now k c.args.command.now (c.loop-index.index + 1))) c.if-was_bound.true)
    ∙ again_is c.args.header.now k c.args.command.now

pub returns : goal.returns
returns g c = grind (arith, bindings_end, again_is)
