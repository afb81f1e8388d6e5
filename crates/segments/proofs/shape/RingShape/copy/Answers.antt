use Rattle.segments.proofs.Words.{◌∙◌, ap, List, Segment, Shape}
use Rattle.segments.proofs.shape.RingShape.copy.Goals as goal

pub invariant_of-result : goal.invariant_of-result
invariant_of-result c = record {
  allowed = rw c.in_ok-copied.ensures c.self.invariant.allowed;
  count = rw c.in_ok-copied.ensures c.self.invariant.count;
  found = rw c.in_ok-copied.ensures (c.in_ok-copy.ensures c.self.inside.kind c.self.inside.segments.items c.self.invariant.found);
}

pub returns : goal.returns
returns c =
    let shape_of : List Segment → Shape = λ xs. record { kind = c.self.inside.kind; segments = xs; offset = c.self.inside.offset } in
    ap shape_of c.in_ok-copied.ensures ∙ c.self.view_is
