use Rattle.leases.proofs.Laws.{◌∙◌, List, take, arith, ap, subst, sym, EventSegment, Lent, with_begun, segments_in_turn, all_taken, begun_none}
use Rattle.leases.proofs.LeaseBooks.SegmentLeases.{next_begun}
use Rattle.leases.proofs.book.ranges.RangeIndexes.begin_segments.Goals as goal

pub loop-lease-init : goal.loop-lease-init
loop-lease-init g c = λ list h ts held. subst (λ (us : List Lent). g.B.LeaseLog.holds list h us c.args.book.now) (sym (begun_none c.args.row ts)) held

pub loop-lease-preserved : goal.loop-lease-preserved
loop-lease-preserved g c = λ list h ts held.
    let segments = c.args.segments.now in
    let xs = c.as_slice-lease-items.result.now in
    let i = c.loop-lease.lease-index in
    let row = c.args.row in
    subst (λ (us : List Lent). g.B.LeaseLog.holds list h us c.begin_range.new.self)
    (next_begun segments xs (c.as_slice-lease-items.ensures.value ∙ c.in_ok-leases.ensures) i _ c.loop-lease-test.true row ts)
    (c.in_ok-begin_range.ensures list h (with_begun row ts (take i (segments_in_turn segments))) EventSegment (c.loop-lease.invariant list h ts held))

pub returns-clause-held : goal.returns-clause-held
returns-clause-held g c = λ list h ts held.
    let segments = c.args.segments.now in
    let xs = c.as_slice-lease-items.result.now in
    subst (λ (us : List Lent). g.B.LeaseLog.holds list h us c.loop-lease.book)
    (ap (with_begun c.args.row ts) (all_taken segments xs c.loop-lease.lease-index (c.as_slice-lease-items.ensures.value ∙ c.in_ok-leases.ensures) (omega (arith, c.loop-lease-test.false))))
    (c.loop-lease.invariant list h ts held)
