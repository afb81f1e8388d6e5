use Rattle.leases.proofs.Laws.{◌≡◌, ◌∙◌, ap, subst, sym, Leased, List, in_turn, segment_ranges, segments_in_turn, with_begun, with_ring, on_more, coming_good, event_kind, comes_held, segments_held, segments_now}
use Rattle.leases.proofs.rings.coming.note_coming.Goals as goal

pub returns-then-not-is_event_ring : goal.returns-then-not-is_event_ring
returns-then-not-is_event_ring g c = λ list h k ts t memory is coming next all.
    let r = c.args.ring.now in
    comes_held h is k next.keeps next.tables r coming (coming_good h k r next.clean) c.args.number ts next.step.opened (g.B.LeaseLog.holds list) (g.met.B.LeaseLog.other_rings list) c.args.book.now
    (sym c.is_event_ring.ensures ∙ c.if-not-is_event_ring.true) c.args.ranges.now all

pub returns : goal.returns
returns g c = on_more c.begin_segments.result (λ held. λ list h k ts t memory is coming next all.
    let r = c.args.ring.now in
    let good = coming_good h k r next.clean in
    let kind = event_kind r.shape.kind (sym c.is_event_ring.ensures ∙ c.if-not-is_event_ring.false) in
    let same : segments_in_turn c.segments.result.now ≡ in_turn (segment_ranges (with_ring h r)) =
    ap segments_in_turn c.segments.ensures ∙ sym (segments_now h is k next.keeps next.tables r coming good kind) in
    segments_held h is k next.keeps next.tables r coming good c.args.number ts next.step.opened (g.B.LeaseLog.holds list) (g.met.B.LeaseLog.other_rings list) c.begin_segments.new.book kind c.args.ranges.now
    c.begin_segments.new.self c.begin_segments.ensures.others (c.begin_segments.ensures.first list h ts all.held)
    (subst (λ (ls : List Leased). g.B.LeaseLog.holds list h (with_begun c.args.number ts ls) c.begin_segments.new.book) same (held list h ts all.held)) all.found) c.begin_segments.ensures.held
