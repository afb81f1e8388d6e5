use Rattle.segments.proofs.Words.{Shape, arith, ap, sym, nat_tests, ◌≡◌, ◌/◌, ◌∙◌, lap_of}
use Rattle.segments.proofs.Positions.{lap_of-unmoved}
use Rattle.segments.proofs.shape.RingShape.cycle.Goals as goal

pub returns-then-self-eq0 : goal.returns-then-self-eq0
returns-then-self-eq0 c =
    let shape : Shape = record { kind = c.self.inside.kind; segments = c.self.inside.segments.items; offset = c.self.inside.offset } in
    let lap : c.args.position / c.from.result ≡ lap_of shape c.args.position = ap (λ n. c.args.position / n) (c.from.ensures ∙ c.self.invariant.count) ∙ sym (lap_of-unmoved shape c.if-self-eq0.true c.args.position) in
    rw (← c.self.view_is) (rw lap (grind (arith, nat_tests)))
