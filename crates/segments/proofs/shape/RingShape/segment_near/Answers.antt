use Rattle.segments.proofs.UpperLaws.{IsNear, ◌≡◌, arith, ap, sym, subst, length, near_from_last}
use Rattle.segments.proofs.shape.RingShape.segment_near.Goals as goal

pub returns-then-len-eq1-clause-near : goal.returns-then-len-eq1-clause-near
returns-then-len-eq1-clause-near c =
    let same : length c.args.self.now.segments ≡ length c.self.inside.segments.items = ap (λ s. length s.segments) (sym c.self.view_is) in
    let one : length c.args.self.now.segments ≡ 1 = omega (arith, same, c.len.ensures, c.self.inside.segments.ok.0, c.if-len-eq1.true) in
    (omega (arith, one), λ i below has. omega (arith, one, below))

pub returns-clause-near : goal.returns-clause-near
returns-clause-near c =
    let segments = c.self.inside.segments.items in
    subst (λ s. IsNear s.segments c.args.address c.last_start.result) c.self.view_is
    (near_from_last c.self.inside.kind segments c.self.invariant.allowed c.args.address _ (c.last_start.ensures c.self.inside.kind segments c.self.invariant.found))
