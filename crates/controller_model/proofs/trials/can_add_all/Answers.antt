use Rattle.controller_model.proofs.Laws.{◌∙◌, is_some, refl, ap, sym, arith, changed_by_all, adds_end, none_left}
use Rattle.controller_model.proofs.trials.can_add_all.Goals as goal

pub loop-index-init : goal.loop-index-init
loop-index-init g c = λ h words d w v f sees. record { world = v; sees = sees; same = refl }

pub loop-index-preserved : goal.loop-index-preserved
loop-index-preserved g c = λ h words d w v f sees.
    let so = c.loop-index.invariant h words d w v f sees in
    let next = c.try_added.ensures.made h words d w so.world c.if-not-try_added.false f so.sees in
    record { world = next.world; sees = next.sees; same = so.same ∙ next.same }

pub returns-then-not-try_added : goal.returns-then-not-try_added
returns-then-not-try_added g c = λ h words d w v f sees.
    let so = c.loop-index.invariant h words d w v f sees in
    sym (ap (λ o. is_some o) (so.same ∙ c.try_added.ensures.refused h words d w so.world c.if-not-try_added.true f so.sees))

pub returns : goal.returns
returns g c = λ h words d w v f sees.
    let so = c.loop-index.invariant h words d w v f sees in
    let end = adds_end c.args.header.now.context_size (g.M.WordMemory.words c.args.memory.now) c.args.slot c.args.context c.loop-index.index
    (omega (arith, c.loop-index.auto.index-end, c.loop-index-test.false)) in
    sym (ap (λ o. is_some o) (so.same ∙ ap (λ xs. changed_by_all c.args.header.now d so.world xs) end ∙ none_left c.args.header.now d so.world))
