use Rattle.segments.proofs.Words.{◌≡◌, ◌∙◌, arith, ap, place_count}
use Rattle.segments.proofs.Positions.{place_of-ahead, place_of-ahead_lap}
use Rattle.segments.proofs.shape.RingShape.ahead.Goals as goal

pub returns-then-place-reached-clause-place : goal.returns-then-place-reached-clause-place
returns-then-place-reached-clause-place c =
    let places : c.self.inside.places ≡ place_count c.args.self.now = c.self.invariant.count ∙ ap place_count c.self.view_is in
    rw (places, c.place-reached.ensures.value) (place_of-ahead_lap c.args.self.now (rw (← c.self.view_is) c.self.invariant.allowed) c.args.from c.args.place c.requires (omega (arith, c.place-reached.ensures.value)))

pub returns-else-place-reached-clause-place : goal.returns-else-place-reached-clause-place
returns-else-place-reached-clause-place c =
    rw c.place-reached.ensures.value (place_of-ahead c.args.self.now c.args.from c.args.place c.requires (omega (arith, c.place-reached.ensures.value)))
