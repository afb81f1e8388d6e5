use Rattle.ring_knowledge.proofs.Laws.{◌-◌, ap, sym, arith, last_place, last_found, last_no_link, last_somewhere}
use Rattle.ring_knowledge.proofs.ring_record.place_before.Goals as goal

pub overflow_sub-link : goal.overflow_sub-link
overflow_sub-link c = omega (arith, (last_place c.args.shape.now c.requires.allowed c.args.segment c.requires.segment).1.address, c.link.ensures)

pub unreachable-requires : goal.unreachable-requires
unreachable-requires c =
    let last = last_place c.args.shape.now c.requires.allowed c.args.segment c.requires.segment in
    last_no_link c.args.shape.now c.args.segment last.0 last.1 _ c.in-Some-Link.field-0-0 c.in-Some-Link.field-0-1 c.in-Some-Link.field-0
    (ap (λ a. a - 16) c.link.ensures) (sym c.in-Some-Link.ensures.value) c.in-Some-Link.field-0-is

pub unreachable-requires-in-None : goal.unreachable-requires-in-None
unreachable-requires-in-None c =
    let last = last_place c.args.shape.now c.requires.allowed c.args.segment c.requires.segment in
    last_somewhere c.args.shape.now c.args.segment last.0 last.1 _ (ap (λ a. a - 16) c.link.ensures) (sym c.in-None.ensures.value)

pub returns-clause-end : goal.returns-clause-end
returns-clause-end c =
    let last = last_place c.args.shape.now c.requires.allowed c.args.segment c.requires.segment in
    last_found c.args.shape.now c.args.segment last.0 last.1 _ c.in-Some-Data.place c.in-Some-Data.field-0-1 c.in-Some-Data.field-0
    (ap (λ a. a - 16) c.link.ensures) (sym c.in-Some-Data.ensures.value) c.in-Some-Data.field-0-is
