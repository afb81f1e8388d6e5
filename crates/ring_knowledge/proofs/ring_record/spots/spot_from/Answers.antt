use Rattle.ring_knowledge.proofs.Laws.{sym, refl, arith, found, nowhere_off, nowhere_else, first_position, first_crossing_at}
use Rattle.ring_knowledge.proofs.ring_record.spots.spot_from.Goals as goal

pub returns-then-address-ne0-clause-spot : goal.returns-then-address-ne0-clause-spot
returns-then-address-ne0-clause-spot c = nowhere_off c.args.shape.now c.places.ensures.allowed c.args.address c.if-address-ne0.true

pub returns-in-None-clause-spot : goal.returns-in-None-clause-spot
returns-in-None-clause-spot c = nowhere_else c.args.shape.now c.places.ensures.allowed c.args.address (sym c.in-None.ensures.value)

pub returns-in-Some-Data-clause-spot : goal.returns-in-Some-Data-clause-spot
returns-in-Some-Data-clause-spot c =
    first_position c.args.shape.now c.places.ensures.allowed c.args.address c.args.from c.if-address-ne0.false c.in-Some-Data.place c.in-Some-Data.field-0-1 _
    (found c.args.shape.now c.args.address c.args.address _ _ refl c.in-Some-Data.ensures.value c.in-Some-Data.field-0-is)
    (omega (arith, c.number.ensures, c.next_at-position.ensures.from)) (omega (arith, c.number.ensures, c.next_at-position.ensures.within)) c.next_at-position.ensures.place

pub returns-in-Some-Link-clause-spot : goal.returns-in-Some-Link-clause-spot
returns-in-Some-Link-clause-spot c =
    first_crossing_at c.args.shape.now c.places.ensures.allowed c.args.address c.args.from c.if-address-ne0.false c.in-Some-Link.segment c.in-Some-Link.field-0-1
    c.passed.result c.crossing_behind-crossing.result
    (found c.args.shape.now c.args.address c.args.address _ _ refl c.in-Some-Link.ensures.value c.in-Some-Link.field-0-is)
    c.passed.ensures.behind c.passed.ensures.ahead
    c.crossing_behind-crossing.ensures.from c.crossing_behind-crossing.ensures.within c.crossing_behind-crossing.ensures.over
