use Rattle.ring_knowledge.proofs.Laws.{◌-◌, ◌∙◌, sym, arith, ceiling, count_is, first_at, first_none, given_count}
use Rattle.ring_knowledge.proofs.ring_record.RingRecord.first_free.Goals as goal

pub returns-then-contains : goal.returns-then-contains
returns-then-contains c = λ shape v known.
    let top = c.ceiling-ceiling.ensures shape v known in
    let count = count_is shape v c.args.self.now known in
    let at = c.loop-position.position-counter in
    sym (first_at v (given_count shape v - ceiling shape v) (ceiling shape v) at (omega (arith, top, c.loop-position.auto.position-counter)) (omega (arith, top, count, c.loop-position-test.true, c.loop-position.auto.position-counter))
    (λ p low high. known.marks.free p ∙ c.loop-position.invariant p (omega (arith, top, low)) high) (known.marks.free at ∙ sym c.contains.ensures ∙ c.if-contains.true))

pub returns : goal.returns
returns c = λ shape v known.
    let top = c.ceiling-ceiling.ensures shape v known in
    let count = count_is shape v c.args.self.now known in
    let all = first_none v (given_count shape v - ceiling shape v) (ceiling shape v) (λ p low high. known.marks.free p ∙ c.loop-position.invariant p (omega (arith, top, low)) (omega (arith, top, count, low, high, c.loop-position-test.false))) in
    omega (arith, top, count, all, c.max.ensures)
