use Rattle.segments.proofs.UpperLaws.{arith, place_count_most}
use Rattle.segments.proofs.shape.RingShape.places.Goals as goal

pub returns-clause-most : goal.returns-clause-most
returns-clause-most c =
    omega (arith, place_count_most (record { kind = c.self.inside.kind; segments = c.self.inside.segments.items; offset = c.self.inside.offset }) c.self.invariant.allowed, c.self.invariant.count)
