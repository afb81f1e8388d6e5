use Rattle.controller_model.proofs.Laws.{err_from_is_err_and, shows, Follows, step_counted, step_uncounted}
use Rattle.controller_model.proofs.steps.make_counted.Goals as goal

pub returns-in_err-seen-clause-step : goal.returns-in_err-seen-clause-step
returns-in_err-seen-clause-step g c = λ w other lists f.
    let h = c.args.rings.now.declared in
    let live = c.args.rings.now.live in
    let words = g.M.WordMemory.words c.make.new.memory in
    let p = err_from_is_err_and c.from_residual.result c.from_residual.ensures.1 in
    rw (p.1, p.2)
    (step_uncounted h live w c.args.step.now c.in_err-seen.field-0.0 (shows h w c.args.step.now) (Follows h words c.make.new.kept) (Follows h words c.make.new.kept)
    (c.in_err-seen.ensures.step w other lists f))

pub returns-clause-step : goal.returns-clause-step
returns-clause-step g c = λ w other lists f.
    let h = c.args.rings.now.declared in
    let live = c.args.rings.now.live in
    let words = g.M.WordMemory.words c.make.new.memory in
    step_counted h live w c.args.step.now c.in_ok-seen.seen (shows h w c.args.step.now) (Follows h words c.make.new.kept) (Follows h words c.count.new.kept)
    (λ v follows. c.in_ok-count.ensures h words v follows) (c.in_ok-seen.ensures.step w other lists f)
