use Rattle.ring_knowledge.proofs.Laws.{sym, ◌∙◌, arith, rank_most, none_between, first_between, first_beyond, first_other}
use Rattle.ring_knowledge.proofs.ring_record.spots.spot_between.Goals as goal

pub returns-in-None-clause-value : goal.returns-in-None-clause-value
returns-in-None-clause-value c = λ near.
    none_between c.args.shape.now c.spot_from.ensures.allowed c.args.pointer c.args.cycle c.args.least c.args.most c.in-None.ensures.spot

pub returns-then-number-most-clause-value : goal.returns-then-number-most-clause-value
returns-then-number-most-clause-value c = λ near.
    first_beyond c.args.shape.now c.spot_from.ensures.allowed c.args.pointer c.args.cycle c.args.least c.args.most near _ c.in-Some.ensures.spot
    (omega (arith, c.number.ensures, c.if-number-most.true))

pub returns-then-has_cycle-clause-value : goal.returns-then-has_cycle-clause-value
returns-then-has_cycle-clause-value c = λ near.
    first_between c.args.shape.now c.spot_from.ensures.allowed c.args.pointer c.args.cycle c.args.least c.args.most near _ c.in-Some.ensures.spot
    (omega (arith, c.number.ensures, c.if-number-most.false)) (sym c.has_cycle.ensures ∙ c.if-has_cycle.true)

pub returns-else-has_cycle-clause-value : goal.returns-else-has_cycle-clause-value
returns-else-has_cycle-clause-value c = λ near.
    first_other c.args.shape.now c.spot_from.ensures.allowed c.args.pointer c.args.cycle c.args.least c.args.most near _ c.in-Some.ensures.spot
    (sym c.has_cycle.ensures ∙ c.if-has_cycle.false)

pub returns-then-has_cycle-clause-from : goal.returns-then-has_cycle-clause-from
returns-then-has_cycle-clause-from c = let later = c.in-Some.ensures.spot.later in let most = rank_most c.in-Some.spot in omega (arith, later, most)
