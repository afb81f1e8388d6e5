use Rattle.segments.proofs.UpperLaws.{◌∙◌, all_touch}
use Rattle.segments.proofs.shape.RingShape.overlaps_ring.Goals as goal

pub returns : goal.returns
returns c = c.some_touches.ensures.touched ∙ all_touch c.before.args.self.now c.before.args.other.now c.some_touches.ensures.allowed
