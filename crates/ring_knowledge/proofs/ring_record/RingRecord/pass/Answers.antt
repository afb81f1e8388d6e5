use Rattle.ring_knowledge.proofs.Laws.{◌∙◌, ap, subst, arith, number, after, Reaches, changed, is_reached, FollowsRing, behind_reached}
use Rattle.ring_knowledge.proofs.ring_record.RingRecord.pass.Goals as goal

pub returns-then-position-end : goal.returns-then-position-end
returns-then-position-end c = λ v known later given declared.
    absurd (omega (arith, c.number-position.ensures, c.end.ensures.value, c.if-position-end.true, known.marks.count, declared))

pub returns : goal.returns
returns c = λ v known later given declared.
    let same = c.after-behind.ensures.behind ∙ ap (λ n. after c.args.shape.now n) c.number-position.ensures in
    subst (λ t. FollowsRing c.args.shape.now (changed c.args.shape.now v (Reaches t)) c.reach.new.self) same
    (c.reach.ensures v known (omega (arith, later, c.after-behind.ensures.next, c.number-position.ensures))
    (ap (λ t. is_reached c.args.shape.now v t) same ∙ behind_reached c.args.shape.now v c.args.self.now known (number c.args.spot) given))
