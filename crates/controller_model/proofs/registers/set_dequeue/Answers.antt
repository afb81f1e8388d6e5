use Rattle.controller_model.proofs.Laws.{◌≡◌, ◌+◌, ◌∙◌, Some, ap, sym, arith, Evt, event_shape, shape_or, is_event_place, position_from, with_dequeue, follows_along, position_is, dequeue_set}
use Rattle.world_state.proofs.EventPlaces.{is_place}
use Rattle.controller_model.proofs.registers.set_dequeue.Goals as goal

pub returns : goal.returns
unfolding event_shape
returns c = λ words w f.
    let shape = c.in-Some.ring.now.shape in
    let same : shape ≡ event_shape c.args.header.now = ap (λ o. shape_or Evt o) c.in-Some.ensures in
    let there = sym c.in-Some-Data.ensures.value ∙ ap (λ p. Some p) c.in-Some-Data.field-0-is in
    let yes_place = is_place shape c.ahead-ahead.ensures.allowed c.args.address c.in-Some-Data.place c.in-Some-Data.field-0-1 c.requires there in
    let from = c.args.kept.now.events.dequeue in
    let got : c.in_ok-dequeue.dequeue ≡ from + c.ahead-ahead.result = grind arith in
    let position = position_is shape c.ahead-ahead.ensures.allowed c.args.address c.in-Some-Data.place c.in-Some-Data.field-0-1 c.requires there from (from + c.ahead-ahead.result) (omega arith) (omega (arith, c.ahead-ahead.ensures.within)) c.ahead-ahead.ensures.place in
    let now : position_from (event_shape c.args.header.now) w.dequeue c.args.address ≡ c.in_ok-dequeue.dequeue =
    (λ i. position_from (sym same i) (f.events.dequeue i) c.args.address) ∙ position ∙ sym got in
    follows_along c.args.header.now words _ (with_dequeue c.args.header.now w c.args.address)
    (record w { dequeue = position_from (event_shape c.args.header.now) w.dequeue c.args.address })
    (dequeue_set c.args.header.now w c.args.address (ap (λ s. is_event_place s c.args.address) (sym same) ∙ yes_place)) (assumption)
