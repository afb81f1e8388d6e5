use Rattle.event_ring.proofs.Words.{◌≡◌, ◌+◌, ◌-◌, ◌∙◌, arith, nat_le, sym, ap, Some, le-leb, lt-leb, place_at, Data, erdp_address, EventState, may_dequeue, dequeued_at, ℕ}
use Rattle.event_ring.proofs.DequeueLemmas.{may_dequeue-place, may_dequeue-none, dequeued_at-place}
use Rattle.event_ring.proofs.event_place.EventPlace.set_dequeue.Goals.{After-from-ahead}
use Rattle.event_ring.proofs.event_place.EventPlace.set_dequeue.Goals as goal

-- how the value is judged, by how far ahead its place is
judged : (c : After-from-ahead) →
    (may_dequeue c.args.self.now c.args.value ≡ nat_le (c.self.inside.dequeue + c.from-ahead.result) (c.self.inside.dequeue + (c.self.inside.reads - c.self.inside.dequeue)))
    × (dequeued_at c.args.self.now c.args.value ≡ c.self.inside.dequeue + c.from-ahead.result)
judged c =
    let state : EventState = record { shape = c.self.inside.shape; counts = record { posted = c.self.inside.posted; reads = c.self.inside.reads; dequeue = c.self.inside.dequeue } } in
    let place : place_at c.self.inside.shape (erdp_address c.args.value) ≡ Some (Data c.in-Some-Data.place c.in-Some-Data.field-0-1) =
    sym c.in-Some-Data.ensures.value ∙ ap (λ p. Some p) c.in-Some-Data.field-0-is in
    rw (← c.self.view_is, c.from-ahead.ensures) (
      may_dequeue-place state c.ahead.ensures.allowed c.args.value c.in-Some-Data.place c.in-Some-Data.field-0-1 c.ahead.result place c.ahead.ensures.within c.ahead.ensures.place,
      dequeued_at-place state c.ahead.ensures.allowed c.args.value c.in-Some-Data.place c.in-Some-Data.field-0-1 c.ahead.result place c.ahead.ensures.within c.ahead.ensures.place,
    )

pub returns-in-None-clause-reached : goal.returns-in-None-clause-reached
returns-in-None-clause-reached c =
    let state : EventState = record { shape = c.self.inside.shape; counts = record { posted = c.self.inside.posted; reads = c.self.inside.reads; dequeue = c.self.inside.dequeue } } in
    rw (← c.self.view_is) (sym (may_dequeue-none state c.place_at.ensures.allowed c.args.value (sym c.in-None.ensures.value)))

pub returns-then-ahead-self-clause-reached : goal.returns-then-ahead-self-clause-reached
returns-then-ahead-self-clause-reached c = sym ((judged (goal.at.returns-then-ahead-self-clause-reached c).After-from-ahead).0 ∙ lt-leb _ _ (omega arith))

pub returns-clause-reached : goal.returns-clause-reached
returns-clause-reached c = sym ((judged (goal.at.returns-clause-reached c).After-from-ahead).0 ∙ le-leb _ _ (omega arith))

pub returns-clause-ok : goal.returns-clause-ok
returns-clause-ok c =
    ap (λ s. moved_to s (c.self.inside.dequeue + c.from-ahead.result)) c.self.view_is
    ∙ ap (moved_to c.args.self.now) (sym (judged (goal.at.returns-clause-ok c).After-from-ahead).1)
  where
    moved_to : EventState → ℕ → EventState
    moved_to s d = record s { counts = record s.counts { dequeue = d } }
