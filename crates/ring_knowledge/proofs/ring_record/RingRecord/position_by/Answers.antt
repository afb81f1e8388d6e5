use Rattle.ring_knowledge.proofs.Laws.{◌∙◌, ◌%◌, sym, arith, eqb-true, eqb-false, cycle_of, place_at-Data, gives-data, gives-other_word, gives-other_cycle}
use Rattle.ring_knowledge.proofs.ring_record.RingRecord.position_by.Goals as goal

pub next_at-position-requires-clause-place : goal.next_at-position-requires-clause-place
next_at-position-requires-clause-place c = (place_at-Data c.args.shape.now c.requires.allowed c.args.at c.args.place c.args.index c.requires.at).0

pub returns-then-index-ne3-clause-gives : goal.returns-then-index-ne3-clause-gives
returns-then-index-ne3-clause-gives c =
    gives-other_word c.args.shape.now c.requires.allowed c.args.self.now.floor c.args.at c.args.word c.args.place c.args.index c.requires.at c.if-index-ne3.true

pub returns-then-has_cycle_of-clause-gives : goal.returns-then-has_cycle_of-clause-gives
returns-then-has_cycle_of-clause-gives c =
    let q = c.next_at-position.result in
    gives-data c.args.shape.now c.requires.allowed c.args.self.now.floor c.args.at c.args.word c.args.place c.args.index c.requires.at
    q c.if-index-ne3.false (omega (arith, c.number.ensures, c.next_at-position.ensures.from)) (omega (arith, c.number.ensures, c.next_at-position.ensures.within)) c.next_at-position.ensures.place
    (eqb-true (c.args.word % 2) (cycle_of c.args.shape.now q) (sym c.has_cycle_of.ensures ∙ c.if-has_cycle_of.true))

pub returns-else-has_cycle_of-clause-gives : goal.returns-else-has_cycle_of-clause-gives
returns-else-has_cycle_of-clause-gives c =
    let q = c.next_at-position.result in
    gives-other_cycle c.args.shape.now c.requires.allowed c.args.self.now.floor c.args.at c.args.word c.args.place c.args.index c.requires.at
    q (omega (arith, c.number.ensures, c.next_at-position.ensures.from)) (omega (arith, c.number.ensures, c.next_at-position.ensures.within)) c.next_at-position.ensures.place
    (eqb-false (c.args.word % 2) (cycle_of c.args.shape.now q) (sym c.has_cycle_of.ensures ∙ c.if-has_cycle_of.false))
