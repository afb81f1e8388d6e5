use Rattle.trace_record.proofs.Laws.{◌<◌, length, get_or, ap, sym, ◌∙◌, arith, EventCounts, place_first, no_event_ring}
use Rattle.trace_record.proofs.fresh.event_place.Goals as goal

pub returns-then-is_event_ring-clause-follows : goal.returns-then-is_event_ring-clause-follows
returns-then-is_event_ring-clause-follows c =
    let same = c.as_slice-ring-items.ensures in
    let below : c.loop-ring.ring-index < length c.args.header.now.rings = omega (arith, ap length same, c.loop-ring-test.true) in
    place_first c.args.header.now c.requires c.loop-ring.ring-index c.ring-item.result (c.ring-item.is ∙ ap (λ xs. get_or xs c.loop-ring.ring-index c.ring-item.result) same) below
    (sym c.is_event_ring.ensures ∙ c.if-is_event_ring.true) c.new.result (c.new.ensures.shape ∙ c.in_ok-copy.ensures) c.new.ensures.counts

pub returns-then-is_event_ring-clause-unread : goal.returns-then-is_event_ring-clause-unread
returns-then-is_event_ring-clause-unread c = let h = ap (λ (e : EventCounts). e.reads) c.new.ensures.counts in omega (arith, h)

pub returns-clause-follows : goal.returns-clause-follows
returns-clause-follows c = grind (arith, no_event_ring)
