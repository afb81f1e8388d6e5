use Rattle.ring_knowledge.proofs.Laws.{rules, ◌<◌, ◌≤◌, ◌-◌, ◌+◌, sym, ◌∙◌, arith, slice_index, ap, cases_lt, is_step_given, whole, not_whole}
use Rattle.ring_knowledge.proofs.ring_record.RingRecord.is_whole.Goals as goal

pub returns-then-not-is_step_given : goal.returns-then-not-is_step_given
returns-then-not-is_step_given c = λ v known from.
    let follows = known.marks in
    let kept : c.args.self.now.forgotten ≤ c.args.position = omega (arith, follows.passed, from) in
    let long : c.loop-offset.offset < slice_index c.args.self.now.lengths.items (c.args.position - c.args.self.now.forgotten) = omega (arith, c.length_at-length.ensures.value kept, c.loop-offset-test.true) in
    not_whole c.args.shape.now v c.args.self.now follows c.args.position c.loop-offset.offset kept c.loop-offset.auto.offset long
    (ap (λ n. is_step_given c.args.shape.now v (c.args.position + n)) (sym c.from.ensures) ∙ sym (c.is_step_given.ensures v follows) ∙ c.if-not-is_step_given.true)

pub loop-offset-preserved : goal.loop-offset-preserved
loop-offset-preserved c = search (rules, cases_lt, is_step_given)

pub returns : goal.returns
returns c = λ v known from.
    let follows = known.marks in
    let kept : c.args.self.now.forgotten ≤ c.args.position = omega (arith, follows.passed, from) in
    whole c.args.shape.now v c.args.self.now follows c.args.position kept
    (λ o low high. c.loop-offset.invariant v follows o low (omega (arith, c.length_at-length.ensures.value kept)))
