use Rattle.controller_model.proofs.Words.{◌||◌, ◌∙◌, ap, sym, is_running, is_stopped, in_state, activated, endpoint_bell}
use Rattle.controller_model.proofs.bells.ring_endpoint.Goals as goal

pub returns-then-target-ge32 : goal.returns-then-target-ge32
unfolding endpoint_bell
returns-then-target-ge32 c = λ h words w f. rw (f.endpoints.no_more c.args.slot c.args.target c.if-target-ge32.true) f

pub returns-in-None : goal.returns-in-None
unfolding endpoint_bell
returns-in-None c = λ h words w f. rw ((c.endpoint_of-endpoint.ensures h words w f).1 ∙ c.in-None.is) f

pub returns-then-not-answers_bell : goal.returns-then-not-answers_bell
unfolding endpoint_bell
returns-then-not-answers_bell c = λ h words w f.
    let is = c.endpoint_of-endpoint.ensures h words w f in
    simp (is.1 ∙ c.in-Some.is, ap (λ s. is_running s || is_stopped s) is.0 ∙ sym c.answers_bell.ensures ∙ c.if-not-answers_bell.true) f

pub returns : goal.returns
unfolding activated endpoint_bell in_state
returns c = λ h words w f.
    let is = c.endpoint_of-endpoint.ensures h words w f in
    simp (is.1 ∙ c.in-Some.is, ap (λ s. is_running s || is_stopped s) is.0 ∙ sym c.answers_bell.ensures ∙ c.if-not-answers_bell.false)
    (c.set_state.ensures.change h words (activated h w c.in-Some.ring) (c.activate.ensures h words w f))
