use Rattle.segments.proofs.Words.{◌∙◌}
use Rattle.segments.proofs.Positions.{place_of-parts}
use Rattle.segments.proofs.shape.RingShape.moved_place.Goals as goal

pub returns-clause-value : goal.returns-clause-value
returns-clause-value c =
    rw (← c.self.view_is) (place_of-parts (record { kind = c.self.inside.kind; segments = c.self.inside.segments.items; offset = c.self.inside.offset }) c.from-places.result c.args.position (c.from-places.ensures ∙ c.self.invariant.count))
