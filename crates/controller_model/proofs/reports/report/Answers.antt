use Rattle.controller_model.proofs.Laws.{◌≡◌, ◌∙◌, ap, sym, Evt, address_of, event_shape, shape_or, Posted, endpoint, reported, slot, told, made_of, none_of, told_posted}
use Rattle.controller_model.proofs.reports.report.Goals as goal

pub returns-then-not-can_post-clause-step : goal.returns-then-not-can_post-clause-step
unfolding reported event_shape
returns-then-not-can_post-clause-step g c = λ w f.
    let same = ap (λ o. shape_or Evt o) c.in-Some.ensures in
    simp (sym (c.can_post.ensures c.args.header.now (g.M.WordMemory.words c.args.memory.now) w same f) ∙ c.if-not-can_post.true) tt

pub returns-then-not-report_on-clause-step : goal.returns-then-not-report_on-clause-step
unfolding reported event_shape
returns-then-not-report_on-clause-step g c = λ w f.
    let same = ap (λ o. shape_or Evt o) c.in-Some.ensures in
    let words = g.M.WordMemory.words c.args.memory.now in
    let none = none_of _ _ (rw c.if-not-report_on.true at (c.report_on.ensures.change words w f)) in
    simp (sym (c.can_post.ensures c.args.header.now words w same f) ∙ c.if-not-can_post.false, sym c.is_report.ensures ∙ c.if-not-is_report.false)
    (rw (told_posted c.args.header.now w c.args.block.now (w.ring_of (slot c.args.block.now) (endpoint c.args.block.now)), none) tt)

pub returns-clause-step : goal.returns-clause-step
unfolding reported event_shape
returns-clause-step g c = λ w f.
    let same = ap (λ o. shape_or Evt o) c.in-Some.ensures in
    let words = g.M.WordMemory.words c.args.memory.now in
    let made = made_of (told c.args.header.now w c.args.block.now (w.ring_of (slot c.args.block.now) (endpoint c.args.block.now))) _ (rw c.if-not-report_on.false at (c.report_on.ensures.change words w f)) in
    let there : c.in_ok-at.at ≡ address_of (event_shape c.args.header.now) w.posted =
    c.in_ok-at.ensures.place ∙ (λ i. address_of (same i) ((ap (λ e. e.posted) c.report_on.ensures.rest.events ∙ sym f.events.posted) i)) in
    simp (sym (c.can_post.ensures c.args.header.now words w same f) ∙ c.if-not-can_post.false, sym c.is_report.ensures ∙ c.if-not-is_report.false)
    (rw (told_posted c.args.header.now w c.args.block.now (w.ring_of (slot c.args.block.now) (endpoint c.args.block.now)), made.is)
    (ap Posted there, c.in_ok-at.ensures.posted c.args.header.now made.after same made.holds))
