use Rattle.ring_knowledge.proofs.Laws.{◌∙◌, ap, sym, arith, number, ends_at_border}
use Rattle.ring_knowledge.proofs.ring_record.RingRecord.passed_whole.Goals as goal

pub returns-then-is_border : goal.returns-then-is_border
returns-then-is_border c = record {
  passed = λ shape v follows. omega (arith, c.number-floor.ensures);
  whole = λ shape v follows p low. ends_at_border v.lengths 0 p _ low
      (sym (c.is_border.ensures shape v follows (omega (arith, c.saturating_sub-back-end.ensures, c.loop-back-test.true))) ∙ c.if-is_border.true);
}

pub returns : goal.returns
returns c = record {
  passed = λ shape v follows. omega (arith, follows.passed, ap number follows.floor);
  whole = λ shape v follows. follows.forgotten_whole;
}
