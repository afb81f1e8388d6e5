use Rattle.leases.proofs.Laws.{◌<◌, length, get_or, ap, sym, ◌∙◌, arith, event_count, no_events}
use Rattle.leases.proofs.rows.taking.event_segments.Goals as goal

pub returns-then-is_event_ring-clause-exact : goal.returns-then-is_event_ring-clause-exact
returns-then-is_event_ring-clause-exact c =
    let same = c.as_slice-ring-items.ensures in
    let below : c.loop-ring.ring-index < length c.args.header.now.rings = omega (arith, ap length same, c.loop-ring-test.true) in
    ap length c.segments.ensures
    ∙ event_count c.args.header.now c.requires c.loop-ring.ring-index c.ring-item.result (c.ring-item.is ∙ ap (λ xs. get_or xs c.loop-ring.ring-index c.ring-item.result) same) below
    (sym c.is_event_ring.ensures ∙ c.if-is_event_ring.true)

pub returns-clause-exact : goal.returns-clause-exact
returns-clause-exact c =
    let past = c.loop-ring-test.false in
    let same = c.as_slice-ring-items.ensures in
    no_events c.args.header.now (λ i d l. c.loop-ring.invariant i d (omega (arith, ap length same, past, l)))
