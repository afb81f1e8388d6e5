use Rattle.ring_knowledge.proofs.Laws.{subst, sym, ◌∙◌, FollowsRing, Holds, Reaches, changed, stop_reached, held_reached}
use Rattle.ring_knowledge.proofs.ring_record.RingRecord.stop_at.Goals as goal

pub returns : goal.returns
returns c = λ v known later stop.
    let shape = c.args.shape.now in
    subst (λ n. FollowsRing shape (changed shape (changed shape v (Holds n)) (Reaches c.args.spot)) c.reach.new.self) (c.stopped_number-end.ensures shape v known)
    (c.reach.ensures (changed shape v (Holds c.stopped_number-end.result)) (c.hold.ensures shape v known) later
    (held_reached shape v c.stopped_number-end.result c.args.spot ∙ sym (stop_reached shape v c.args.self.now known c.args.spot) ∙ stop))
