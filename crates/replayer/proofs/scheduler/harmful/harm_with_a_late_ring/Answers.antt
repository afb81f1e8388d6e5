use Rattle.replayer.proofs.MiddleLaws.{◌≡◌, ◌+◌, ap, drop, false, true, length, rules, arith, Some, IfSome, is_event_kind, eager_schedule, lines_of, IsTame, left, late_event, late_goes, late_last, late_nothing, made_lines}
use Rattle.replayer.proofs.scheduler.harmful.harm_with_a_late_ring.Goals.{In_default}
use Rattle.replayer.proofs.scheduler.harmful.harm_with_a_late_ring.Goals as goal

pub loop-ring-preserved-then-eq : goal.loop-ring-preserved-then-eq
loop-ring-preserved-then-eq c tame =
    let h = c.args.trace.now.header in
    let ring = c.ring-item.result in
    let i = c.loop-ring.ring-index in
    let same = c.as_slice-ring-items.ensures in
    let event : is_event_kind ring.shape.kind ≡ true = search (rules, c.kind.ensures, c.eq.ensures, c.if-eq.true) in
    c.loop-ring.invariant
    (rw (left h.rings i ring (rw same at c.loop-ring-test.true) (rw same at c.ring-item.is), late_event h c.args.trace.now.rows c.args.first.now c.args.lines c.loop-ring.left ring (drop (i + 1) h.rings) event) tame)

-- what was made of a ring does no harm
told : (c : In_default) → (is_event_kind c.ring-item.result.shape.kind ≡ false)
    × (c.lines_of-made.result ≡ lines_of (eager_schedule c.args.trace.now.header c.args.trace.now.rows c.args.first.now (Some c.ring-item.result)) c.args.lines)
    × IfSome (eager_schedule c.args.trace.now.header c.args.trace.now.rows c.args.first.now (Some c.ring-item.result)) (IsTame c.args.trace.now.header c.args.trace.now.rows (length c.args.first.now))
told c =
    let made = eager_schedule c.args.trace.now.header c.args.trace.now.rows c.args.first.now (Some c.ring-item.result) in (
      search (rules, c.kind.ensures, c.eq.ensures, c.if-eq.false),
      made_lines c.lines_of-made.result c.args.lines c.eager_schedule-late.result made c.eager_schedule-late.ensures c.in_ok-run.ensures.made c.lines_of-made.ensures.made c.lines_of-made.ensures.dropped,
      (rw c.in_default.is at c.in_ok-run.ensures.none) made c.eager_schedule-late.ensures,
    )

pub returns-then-made-left-clause-none : goal.returns-then-made-left-clause-none
returns-then-made-left-clause-none c =
    let h = c.args.trace.now.header in
    let i = c.loop-ring.ring-index in
    let (driven, many, tame) = told (goal.at.returns-then-made-left-clause-none c).In_default in
    c.loop-ring.invariant
    (rw (left h.rings i c.ring-item.result (rw c.as_slice-ring-items.ensures at c.loop-ring-test.true) (rw c.as_slice-ring-items.ensures at c.ring-item.is))
    (late_last h c.args.trace.now.rows c.args.first.now c.args.lines c.loop-ring.left c.ring-item.result (drop (i + 1) h.rings) driven c.lines_of-made.result many (IsTame h c.args.trace.now.rows (length c.args.first.now)) tame c.if-made-left.true))

pub loop-ring-preserved : goal.loop-ring-preserved
loop-ring-preserved c others =
    let h = c.args.trace.now.header in
    let i = c.loop-ring.ring-index in
    let (driven, many, tame) = told (goal.at.loop-ring-preserved c).In_default in
    c.loop-ring.invariant
    (rw (left h.rings i c.ring-item.result (rw c.as_slice-ring-items.ensures at c.loop-ring-test.true) (rw c.as_slice-ring-items.ensures at c.ring-item.is))
    (late_goes h c.args.trace.now.rows c.args.first.now c.args.lines c.loop-ring.left c.ring-item.result (drop (i + 1) h.rings) driven c.lines_of-made.result many (IsTame h c.args.trace.now.rows (length c.args.first.now)) tame c.if-made-left.false others))

pub returns-clause-none : goal.returns-clause-none
returns-clause-none c =
    let h = c.args.trace.now.header in
    c.loop-ring.invariant
    (late_nothing h c.args.trace.now.rows c.args.first.now c.args.lines c.loop-ring.left c.loop-ring.ring-index h.rings (IsTame h c.args.trace.now.rows (length c.args.first.now)) (omega (arith, c.loop-ring-test.false, ap length c.as_slice-ring-items.ensures)))
