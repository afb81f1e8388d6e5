use Rattle.ring_knowledge.proofs.Laws.{subst, FollowsRing, Holds, changed, held_at_given}
use Rattle.ring_knowledge.proofs.ring_record.RingRecord.hold_at_given.Goals as goal

pub returns : goal.returns
unfolding held_at_given
returns c = λ shape v known. subst (λ n. FollowsRing shape (changed shape v (Holds n)) c.hold.new.self) (c.first_free-end.ensures shape v known) (c.hold.ensures shape v known)
