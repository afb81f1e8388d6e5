use Rattle.segments.proofs.Words.{Shape, ap, sym, ◌%◌, ◌∙◌}
use Rattle.segments.proofs.Positions.{place_of-unmoved}
use Rattle.segments.proofs.shape.RingShape.place.Goals as goal

pub returns-then-self-eq0-clause-value : goal.returns-then-self-eq0-clause-value
returns-then-self-eq0-clause-value c =
    let shape : Shape = record { kind = c.self.inside.kind; segments = c.self.inside.segments.items; offset = c.self.inside.offset } in
    rw (← c.self.view_is) (ap (λ n. c.args.position % n) (c.from.ensures ∙ c.self.invariant.count) ∙ sym (place_of-unmoved shape c.if-self-eq0.true c.args.position))
