use Rattle.ring_knowledge.proofs.ring_record.RingRecord.forget_passed.Goals as goal

pub returns : goal.returns
returns c = λ shape v known.
    c.forget_below.ensures shape v known (c.passed_whole-end.ensures.passed shape v known.marks) (c.passed_whole-end.ensures.whole shape v known.marks)
