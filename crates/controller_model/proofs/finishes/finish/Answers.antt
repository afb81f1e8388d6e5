use Rattle.controller_model.proofs.Laws.{◌≡◌, ◌∙◌, ap, sym, option_map, err_from_is_err_and, Evt, address_of, event_shape, shape_or, Posted, ended, finished, finished_as, completed, Follows, finished_as_is, made_of_part, step_fails}
use Rattle.controller_model.proofs.finishes.finish.Goals as goal

pub returns-then-not-can_post-clause-step : goal.returns-then-not-can_post-clause-step
unfolding finished event_shape
returns-then-not-can_post-clause-step g c = λ w lists f.
    let same = ap (λ o. shape_or Evt o) c.in-Some.ensures in
    simp (sym (c.can_post.ensures c.args.header.now (g.M.WordMemory.words c.args.memory.now) w same f) ∙ c.if-not-can_post.true) tt

pub returns-in_err-complete-clause-step : goal.returns-in_err-complete-clause-step
unfolding finished event_shape
returns-in_err-complete-clause-step g c = λ w lists f.
    let h = c.args.header.now in
    let live = c.args.live.now in
    let b = c.args.block.now in
    let words = g.M.WordMemory.words c.args.memory.now in
    let same = ap (λ o. shape_or Evt o) c.in-Some.ensures in
    let p = err_from_is_err_and c.from_residual.result c.from_residual.ensures.1 in
    rw (p.1, p.2)
    (simp (sym (c.can_post.ensures h words w same f) ∙ c.if-not-can_post.false, sym c.is_completion.ensures ∙ c.if-not-is_completion.false)
    (step_fails (Unit {0}) c.in_err-complete.field-0.0 (completed live w b w.under_way) (finished_as h live w b w.under_way) (λ v. ended h v b) (Posted (address_of (event_shape h) w.posted))
    (Follows h words c.complete.new.kept) (Follows h words c.complete.new.kept) (finished_as_is h live w b w.under_way) (c.in_err-complete.ensures.change h w lists f)))

pub returns-clause-step : goal.returns-clause-step
unfolding finished event_shape ended
returns-clause-step g c = λ w lists f.
    let h = c.args.header.now in
    let live = c.args.live.now in
    let b = c.args.block.now in
    let words = g.M.WordMemory.words c.args.memory.now in
    let same = ap (λ o. shape_or Evt o) c.in-Some.ensures in
    let made = made_of_part (Unit {0}) tt (completed live w b w.under_way) (Follows h words c.complete.new.kept) (c.in_ok-complete.ensures.change h w lists f) in
    let there : c.in_ok-at.at ≡ address_of (event_shape h) w.posted =
    c.in_ok-at.ensures.place ∙ (λ i. address_of (same i) ((ap (λ e. e.posted) c.complete.ensures.rest.events ∙ sym f.events.posted) i)) in
    let after = c.in_ok-at.ensures.posted h made.after same made.holds in
    simp (sym (c.can_post.ensures h words w same f) ∙ c.if-not-can_post.false, sym c.is_completion.ensures ∙ c.if-not-is_completion.false)
    (rw (finished_as_is h live w b w.under_way ∙ ap (λ o. option_map (λ v. ended h v b) o) made.is) (ap Posted there, assumption after))
