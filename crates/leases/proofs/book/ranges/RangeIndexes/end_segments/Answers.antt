use Rattle.leases.proofs.Laws.{◌≡◌, ◌+◌, ◌∙◌, ℕ, Lease, Leased, List, Range, get_or, map, take, arith, ap, subst, sym, EventSegment, Lent, ended_where, is_among, StandsAt, segments_in_turn, all_taken, next_lent, next_stands, none_yet}
use Rattle.leases.proofs.LeaseBooks.SegmentLeases.{next_ended}
use Rattle.leases.proofs.book.ranges.RangeIndexes.end_segments.Goals as goal

pub loop-place-init : goal.loop-place-init
loop-place-init g c = λ list h ts held stand.
    subst (λ (us : List Lent). g.B.LeaseLog.holds list h us c.args.book.now) (sym (none_yet c.args.row (segments_in_turn c.args.segments.now) ts)) held

pub loop-place-preserved : goal.loop-place-preserved
loop-place-preserved g c = λ list h ts held stand.
    let segments = c.args.segments.now in
    let xs = c.deref-lease-items.result.now in
    let are = c.deref-lease-items.ensures.value ∙ c.in_ok-leases.ensures in
    let i = c.loop-place.place in
    let row = c.args.row in
    let first = c.args.self.now.segments in
    let low = c.loop-place-test.true in
    let left : List Lent = map (ended_where (is_among (take i (segments_in_turn segments))) row) ts in
    let d : Lease = record { kind = 0; ring = 0; pos = 0; from = 0; to = 0 } in
    let next : Leased = Range (get_or xs i d).ring (get_or xs i d).pos EventSegment in
    let at : first + i ≡ c.in-Some.index = omega (arith, c.in-Some.ensures.1) in
    subst (λ (us : List Lent). g.B.LeaseLog.holds list h us c.end_range.new.self) (next_ended segments xs are i d low row ts first stand)
    (c.end_range.ensures list h left EventSegment (c.loop-place.invariant list h ts held stand)
    (subst (λ (n : ℕ). StandsAt left next n) at (next_stands segments xs are i d low row ts first stand)) (next_lent segments xs are i d low row ts first stand))

pub returns : goal.returns
returns g c = λ list h ts held stand.
    let segments = c.args.segments.now in
    let xs = c.deref-lease-items.result.now in
    subst (λ (us : List Lent). g.B.LeaseLog.holds list h us c.loop-place.book)
    (ap (λ ls. map (ended_where (is_among ls) c.args.row) ts) (all_taken segments xs c.loop-place.place (c.deref-lease-items.ensures.value ∙ c.in_ok-leases.ensures) (omega (arith, c.loop-place-test.false))))
    (c.loop-place.invariant list h ts held stand)
