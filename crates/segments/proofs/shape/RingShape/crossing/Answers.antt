use Rattle.segments.proofs.UpperLaws.{AreMultiples, ◌%◌, ◌≢◌, ◌∙◌, ap, sym, crossed_between}
use Rattle.segments.proofs.shape.RingShape.crossing.Goals as goal

pub returns-then-q-from-ne0-clause-value : goal.returns-then-q-from-ne0-clause-value
returns-then-q-from-ne0-clause-value c =
    let are : AreMultiples c.args.self.now.kind c.args.self.now.segments c.self.inside.index.step = rw (← c.self.view_is) c.self.invariant.found.step in
    let between : c.args.q % c.self.inside.index.step ≢ 0 = λ zero. c.if-q-from-ne0.true (ap (λ n. c.args.q % n) c.from.ensures ∙ zero) in
    sym (crossed_between c.args.self.now (rw (← c.self.view_is) c.self.invariant.allowed) (rw (← c.self.view_is) c.if-self-eq0.true) c.self.inside.index.step c.args.q are between)
