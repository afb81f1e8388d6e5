use Rattle.ring_knowledge.proofs.Laws.{◌∙◌, ◌%◌, ◌-◌, sym, arith, eqb-true, eqb-false, cycle_of, gives_crossing-link, gives_crossing-other_word, gives_crossing-other_cycle}
use Rattle.ring_knowledge.proofs.ring_record.RingRecord.crossing_by.Goals as goal

pub returns-then-index-ne3-clause-gives : goal.returns-then-index-ne3-clause-gives
returns-then-index-ne3-clause-gives c =
    gives_crossing-other_word c.args.shape.now c.requires.allowed c.args.self.now.floor c.args.at c.args.word c.args.segment c.args.index c.requires.at c.if-index-ne3.true

pub returns-then-has_cycle_of-clause-gives : goal.returns-then-has_cycle_of-clause-gives
returns-then-has_cycle_of-clause-gives c =
    let q = c.crossing_behind-crossing.result in
    gives_crossing-link c.args.shape.now c.requires.allowed c.args.self.now.floor c.args.at c.args.word c.args.segment c.args.index c.requires.at
    q c.if-index-ne3.false (omega arith) (omega arith) c.crossing_behind-crossing.ensures.over
    (eqb-true (c.args.word % 2) (cycle_of c.args.shape.now (q - 1)) (sym c.has_cycle_of.ensures ∙ c.if-has_cycle_of.true))

pub returns-else-has_cycle_of-clause-gives : goal.returns-else-has_cycle_of-clause-gives
returns-else-has_cycle_of-clause-gives c =
    let q = c.crossing_behind-crossing.result in
    gives_crossing-other_cycle c.args.shape.now c.requires.allowed c.args.self.now.floor c.args.at c.args.word c.args.segment c.args.index c.requires.at q (omega arith) (omega arith)
    c.crossing_behind-crossing.ensures.over (eqb-false (c.args.word % 2) (cycle_of c.args.shape.now (q - 1)) (sym c.has_cycle_of.ensures ∙ c.if-has_cycle_of.false))
