use Rattle.ring_knowledge.proofs.Laws.{ap, sym, arith, gap_at, no_gap, number}
use Rattle.ring_knowledge.proofs.ring_record.RingRecord.has_gap.Goals as goal

pub returns-then-is_noted : goal.returns-then-is_noted
returns-then-is_noted c = λ v known.
    let floor = ap number known.marks.floor in
    sym (gap_at c.args.shape.now v c.args.self.now known c.loop-position.position (omega arith)
    (omega (arith, floor, c.number-floor.ensures, c.from-places.ensures, c.places.ensures.count, c.loop-position-test.true, c.loop-position.auto.position-end)) cc)

pub returns : goal.returns
returns c = λ v known.
    let floor = ap number known.marks.floor in
    sym (no_gap c.args.shape.now v c.args.self.now known (λ p low high.
    let none = c.loop-position.invariant p low
    (omega (arith, high, floor, c.number-floor.ensures, c.from-places.ensures, c.places.ensures.count, c.loop-position-test.false, c.loop-position.auto.position-end)) in
    cc))
