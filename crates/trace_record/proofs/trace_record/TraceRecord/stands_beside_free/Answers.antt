use Rattle.trace_record.proofs.Laws.{◌≡◌, ◌∙◌, true, refl, sym, ap, not, touches, is_driver_kind, read_at, none_here, ring_here, among_at}
use Rattle.trace_record.proofs.BaseWords.{get_or_from_slice_get}
use Rattle.trace_record.proofs.OneRingHas.{beside_here, beside_in_events, beside_nowhere}
use Rattle.trace_record.proofs.trace_record.TraceRecord.stands_beside_free.Goals as goal

pub returns-in_default : goal.returns-in_default
returns-in_default c = λ headed k word rings placed.
    let h = c.args.header.now in
    beside_nowhere h headed k c.args.at placed.aligned (none_here h (λ q. touches q.shape c.args.at 4) h.rings (sym placed.ring ∙ c.in_default.is) refl)

pub returns-then-is_event_ring : goal.returns-then-is_event_ring
returns-then-is_event_ring c = λ headed k word rings placed.
    let h = c.args.header.now in
    let n = c.in-Some.number in
    let q = c.in-Some-get.ring.now in
    let here = read_at c.as_slice-rings.result.now h.rings n q c.as_slice-rings.ensures c.in-Some-get.ensures.lookup.3.0 c.in-Some-get.ensures.lookup.1 in
    let touched = (ring_here h (λ q. touches q.shape c.args.at 4) h.rings n q (sym placed.ring ∙ c.in-Some.is) refl (sym (get_or_from_slice_get h.rings n q q here))).1 in
    beside_in_events h headed k c.args.at placed.aligned q (among_at h.rings n q here) (sym c.is_event_ring.ensures ∙ c.if-is_event_ring.true) touched

pub returns-in-Some-get-2 : goal.returns-in-Some-get-2
returns-in-Some-get-2 c = λ headed k word rings placed.
    let h = c.args.header.now in
    let n = c.in-Some.number in
    let q = c.in-Some-get.ring.now in
    let here = read_at c.as_slice-rings.result.now h.rings n q c.as_slice-rings.ensures c.in-Some-get.ensures.lookup.3.0 c.in-Some-get.ensures.lookup.1 in
    let touched = (ring_here h (λ q. touches q.shape c.args.at 4) h.rings n q (sym placed.ring ∙ c.in-Some.is) refl (sym (get_or_from_slice_get h.rings n q q here))).1 in
    let there = read_at c.deref.result.now c.args.self.now.rings.items n c.in-Some-get-2.known.now c.deref.ensures.value c.in-Some-get-2.ensures.lookup.3.0 c.in-Some-get-2.ensures.lookup.1 in
    let driver : is_driver_kind q.shape.kind ≡ true = ap not (sym c.is_event_ring.ensures ∙ c.if-is_event_ring.false) in
    c.stands_beside_free.ensures (k.ring q.id) (rings.each n q c.in-Some-get-2.known.now here there driver)
    ∙ beside_here h headed k c.args.at placed.aligned q (among_at h.rings n q here) driver touched
