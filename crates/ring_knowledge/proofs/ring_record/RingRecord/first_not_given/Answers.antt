use Rattle.ring_knowledge.proofs.Laws.{rules, ◌∙◌, sym, ap, arith, cases_lt, number, is_step_given, past_not_given}
use Rattle.ring_knowledge.proofs.ring_record.RingRecord.first_not_given.Goals as goal

pub loop-q-preserved : goal.loop-q-preserved
loop-q-preserved c = search (rules, cases_lt, is_step_given)

pub returns-then-not-is_step_given-clause-steps : goal.returns-then-not-is_step_given-clause-steps
returns-then-not-is_step_given-clause-steps c = λ v follows n low high. c.loop-q.invariant v follows n low high

pub returns-then-not-is_step_given-clause-stop : goal.returns-then-not-is_step_given-clause-stop
returns-then-not-is_step_given-clause-stop c = λ v follows. sym (c.is_step_given.ensures v follows) ∙ c.if-not-is_step_given.true

pub returns-clause-steps : goal.returns-clause-steps
returns-clause-steps c = λ v follows n low high. c.loop-q.invariant v follows n low (omega (arith, c.loop-q-test.false))

pub returns-clause-stop : goal.returns-clause-stop
returns-clause-stop c = λ v follows.
    past_not_given c.args.shape.now v c.args.self.now follows _
    (omega (arith, c.number.ensures, ap number follows.floor, c.from.ensures, c.places.ensures.count))
