use Rattle.ring_knowledge.proofs.Laws.{◌∙◌, ap, arith, sym, number, room_test}
use Rattle.ring_knowledge.proofs.ring_record.RingRecord.has_room.Goals as goal

pub returns : goal.returns
returns c = λ v known.
    let follows = known.marks in
    room_test c.args.shape.now v c.args.self.now follows c.args.count c.end.result c.saturating_sub.result
    (c.end.ensures.value ∙ sym follows.count)
    (omega (arith, c.end.ensures.value, follows.count, c.saturating_sub.ensures, c.from.ensures, c.places.ensures.count, c.number.ensures, ap number follows.floor))
