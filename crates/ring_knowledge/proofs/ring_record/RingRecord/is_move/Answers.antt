use Rattle.ring_knowledge.proofs.Laws.{◌∙◌, arith, no_move, one_move}
use Rattle.ring_knowledge.proofs.ring_record.RingRecord.is_move.Goals as goal

pub returns-in-None : goal.returns-in-None
returns-in-None c = λ v known from near. no_move c.args.shape.now v c.args.pointer c.args.cycle c.args.least c.args.most (c.in-None.ensures.value near)

pub returns-in-Some : goal.returns-in-Some
returns-in-Some c = λ v known from near.
    c.may_move_to.ensures v known (omega (arith, from, c.in-Some.ensures.from))
    ∙ one_move c.args.shape.now v c.args.pointer c.args.cycle c.args.least c.args.most known.marks.allowed near c.in-Some.spot (c.in-Some.ensures.value near)
