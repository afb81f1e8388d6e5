use Rattle.ring_knowledge.proofs.Laws.{deref, rest_all, rest_more, arith, ◌≤◌, ◌≡◌, ◌∙◌, [], ap, sym, not, number, list_any, and_from, le-leb, first_passes, not_restored_is}
use Rattle.ring_knowledge.proofs.ring_record.RingRecord.is_not_restored.Goals as goal

pub returns-then-not-stands_declared : goal.returns-then-not-stands_declared
returns-then-not-stands_declared g c = λ v known.
    let more = rest_more deref _ _ _ _ c.in-Some.is c.next.ensures.steps in
    let floor = c.number-floor.ensures ∙ sym (ap number known.marks.floor) in
    let passed : c.args.self.now.forgotten ≤ c.number-floor.result = omega (arith, floor, known.marks.passed) in
    let passes = and_from _ _ (le-leb c.number-floor.result c.in-Some.position.now c.if-floor-position.true) (ap not (sym (c.stands_declared.ensures (omega (arith, passed, c.if-floor-position.true))) ∙ c.if-not-stands_declared.true)) in
    sym (not_restored_is c.args.shape.now v c.args.self.now known.marks c.into_iter-position-iterator.ensures.into_iter_gives.4 (g.M.WordMemory.words c.args.memory.now) c.number-floor.result floor
    ∙ sym (c.loop-position.invariant.2 passed) ∙ first_passes _ _ _ _ more passes)

pub returns : goal.returns
returns g c = λ v known.
    let none : c.loop-position.position-iterator ≡ [] = rest_all deref _ _ _ c.in-None.is c.next.ensures.steps in
    let floor = c.number-floor.ensures ∙ sym (ap number known.marks.floor) in
    let passed : c.args.self.now.forgotten ≤ c.number-floor.result = omega (arith, floor, known.marks.passed) in
    sym (not_restored_is c.args.shape.now v c.args.self.now known.marks c.into_iter-position-iterator.ensures.into_iter_gives.4 (g.M.WordMemory.words c.args.memory.now) c.number-floor.result floor
    ∙ sym (c.loop-position.invariant.2 passed) ∙ ap (list_any _) none)
