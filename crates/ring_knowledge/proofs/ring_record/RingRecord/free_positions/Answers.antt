use Rattle.ring_knowledge.proofs.Laws.{deref, rest_all, ◌≡◌, ◌∙◌, [], ap, sym, filter, nat_le, number, all_there, unrestored_is}
use Rattle.ring_knowledge.proofs.ring_record.RingRecord.free_positions.Goals as goal

pub returns : goal.returns
returns c = λ shape v known.
    let none : c.loop-position.position-iterator ≡ [] = rest_all deref _ _ _ c.in-None.is c.next.ensures.steps in
    let floor = c.number-floor.ensures ∙ sym (ap number known.marks.floor) in
    all_there _ _ _ _ (ap (filter (nat_le c.number-floor.result)) none) c.loop-position.invariant
    (ap (λ n. filter (nat_le n) c.args.self.now.free.keys) floor ∙ sym (unrestored_is shape v c.args.self.now known.marks c.into_iter-position-iterator.ensures.into_iter_gives.4))
