use Rattle.event_rows.proofs.Words.{◌∙◌, sym, subst, IsAhead, target_ahead, FollowsRing, set_on}
use Rattle.event_rows.proofs.completions.rings.move_to_target.Goals as goal

pub returns-in-Some : goal.returns-in-Some
returns-in-Some c = λ v f reaches.
    let shape = c.args.shape.now in
    let named = sym (c.target.ensures.value v f) ∙ c.in-Some.is in
    let ahead : IsAhead shape v c.in-Some.spot = target_ahead shape v c.args.pointer c.args.cycle c.in-Some.spot named in
    subst (λ o. FollowsRing shape (set_on shape v o) c.set_to.new.self) (sym named) (c.set_to.ensures v f ahead.from (reaches c.in-Some.spot named))
