use Rattle.trace_record.proofs.Laws.{◌+◌, List, sym, subst, arith, RingRecord, IsFreshSo, fresh_push}
use Rattle.trace_record.proofs.fresh.fresh_records.Goals as goal

pub loop-ring-preserved : goal.loop-ring-preserved
loop-ring-preserved c =
    subst (λ (xs : List RingRecord). IsFreshSo c.args.rings.now xs (c.loop-ring.ring-index + 1)) (sym c.in_ok-push.ensures.items)
    (fresh_push c.args.rings.now c.loop-ring.records.items c.ring-item.result c.loop-ring.ring-index c.in_ok-new.field-0 c.loop-ring.invariant c.ring-item.is c.loop-ring-test.true c.in_ok-new.ensures)

pub returns : goal.returns
returns c = grind arith
