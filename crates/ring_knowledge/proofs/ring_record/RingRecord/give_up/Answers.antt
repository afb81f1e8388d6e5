use Rattle.ring_knowledge.proofs.Laws.{◌∙◌, ap, subst, arith, FollowsRing, Opens, Reaches, behind_blocks, changed, count_is, floor_within, given_reached, given_up, is_reached, refl}
use Rattle.ring_knowledge.proofs.ring_record.RingRecord.give_up.Goals as goal

pub returns-then-count-end : goal.returns-then-count-end
returns-then-count-end c = λ v known declared.
    absurd (omega (arith, c.end.ensures.value, c.if-count-end.true, known.marks.count, count_is c.args.shape.now v c.args.self.now known, declared))

pub returns : goal.returns
unfolding given_up
returns c = λ v known declared.
    let shape = c.args.shape.now in
    let count = count_is shape v c.args.self.now known in
    let same = c.behind_blocks-behind.ensures.behind ∙ ap (λ n. behind_blocks shape n) count in
    subst (λ t. FollowsRing shape (changed shape (changed shape v (Reaches t)) Opens) c.open.new.self) same
    (c.open.ensures shape _ (c.reach.ensures v known (omega (arith, floor_within shape v c.args.self.now known, c.behind_blocks-behind.ensures.there))
    (ap (λ t. is_reached shape v t) same ∙ given_reached shape v c.args.self.now known _ refl)))
