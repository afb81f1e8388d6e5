use Rattle.ring_knowledge.proofs.Laws.{arith, named_nowhere, named_first, named_beyond}
use Rattle.ring_knowledge.proofs.ring_record.RingRecord.named.Goals as goal

pub returns-in-None-clause-value : goal.returns-in-None-clause-value
returns-in-None-clause-value c = λ v known is. named_nowhere c.args.shape.now v is c.args.address c.in-None.ensures.spot

pub returns-then-number-end-clause-value : goal.returns-then-number-end-clause-value
returns-then-number-end-clause-value c = λ v known is.
    named_first c.args.shape.now v is c.args.address c.args.self.now.floor known.marks.floor _ c.in-Some.ensures.spot
    (omega (arith, c.number.ensures, c.end.ensures.value, c.if-number-end.true, known.marks.count))

pub returns-then-number-end-clause-few : goal.returns-then-number-end-clause-few
returns-then-number-end-clause-few c = omega (arith, c.number.ensures, c.end.ensures.value, c.if-number-end.true, c.end.ensures.few)

pub returns-else-number-end-clause-value : goal.returns-else-number-end-clause-value
returns-else-number-end-clause-value c = λ v known is.
    named_beyond c.args.shape.now v is c.args.address c.args.self.now.floor known.marks.floor _ c.in-Some.ensures.spot
    (omega (arith, c.number.ensures, c.end.ensures.value, c.if-number-end.false, known.marks.count))
