use Rattle.driver_rows.proofs.Laws.{sym, ap, refl, ◌∙◌, subst, is_none, FollowsEvents, is_unwritten, is_wrong_size, no_events_unwritten}
use Rattle.driver_rows.proofs.registers.is_bad_table.Goals as goal

pub returns-in_default : goal.returns-in_default
unfolding is_unwritten
returns-in_default g c = λ k f s. rw (← c.in_default.ensures k f.registers) refl

pub returns-then-is_bad_size : goal.returns-then-is_bad_size
unfolding is_unwritten is_wrong_size
returns-then-is_bad_size g c = λ k f s. rw (← c.in-Some.ensures k f.registers, ← c.is_bad_size.ensures c.args.header.now k _ f, c.if-is_bad_size.true) refl

pub returns-in-Some-events : goal.returns-in-Some-events
unfolding is_unwritten is_wrong_size
returns-in-Some-events g c = λ k f s.
    let place = subst (FollowsEvents c.args.header.now k) c.in-Some-events.is f.events in
    rw (← c.in-Some.ensures k f.registers, ← c.is_bad_size.ensures c.args.header.now k _ f, c.if-is_bad_size.false) (c.is_bad_place.ensures k f (record { here = place.here; same = c.shape.ensures.same ∙ sym place.shape }))

pub returns-in-None : goal.returns-in-None
unfolding is_unwritten
returns-in-None g c = λ k f s.
    no_events_unwritten c.args.header.now k s (ap (λ o. is_none o) (sym (c.in-Some.ensures k f.registers))) (subst (FollowsEvents c.args.header.now k) c.in-None.is f.events)
