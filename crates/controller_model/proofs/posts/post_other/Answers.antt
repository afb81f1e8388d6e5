use Rattle.controller_model.proofs.Words.{◌≡◌, ◌∙◌, ap, sym, Evt, address_of, event_shape, other_posted, shape_or, Posted}
use Rattle.controller_model.proofs.posts.post_other.Goals as goal

pub returns-then-not-can_post-clause-step : goal.returns-then-not-can_post-clause-step
unfolding other_posted event_shape
returns-then-not-can_post-clause-step g c = λ w f.
    let same = ap (λ o. shape_or Evt o) c.in-Some.ensures in
    simp (sym (c.can_post.ensures c.args.header.now (g.M.WordMemory.words c.args.memory.now) w same f) ∙ c.if-not-can_post.true) tt

pub returns-clause-step : goal.returns-clause-step
unfolding other_posted event_shape
returns-clause-step g c = λ w f.
    let same = ap (λ o. shape_or Evt o) c.in-Some.ensures in
    let there : c.in_ok-at.at ≡ address_of (event_shape c.args.header.now) w.posted =
    c.in_ok-at.ensures.place ∙ (λ i. address_of (same i) (sym f.events.posted i)) in
    simp (
      sym (c.can_post.ensures c.args.header.now (g.M.WordMemory.words c.args.memory.now) w same f) ∙ c.if-not-can_post.false,
      sym c.is_other_event.ensures ∙ c.if-not-is_other_event.false,
    ) (ap Posted there, c.in_ok-at.ensures.posted c.args.header.now w same f)
