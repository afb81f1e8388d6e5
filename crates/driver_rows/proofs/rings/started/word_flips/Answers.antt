use Rattle.driver_rows.proofs.Laws.{◌≡◌, ◌∙◌, true, ap, arith, get_or, length, not, refl, sym, slice_get_read, slice_get_within, touches, is_driver_kind, none_here, ring_here, among_at, event_flips, none_flips, ring_flips}
use Rattle.driver_rows.proofs.rings.started.word_flips.Goals as goal

pub returns-in_default : goal.returns-in_default
returns-in_default c = λ k memory f placed.
    let h = c.args.header.now in
    none_flips h c.requires.headed k c.args.at c.args.word placed.aligned (none_here h (λ q. touches q.shape c.args.at 4) h.rings (sym placed.ring ∙ c.in_default.is) refl)

pub returns-then-is_event_ring : goal.returns-then-is_event_ring
returns-then-is_event_ring c = λ k memory f placed.
    let h = c.args.header.now in
    let n = c.in-Some.number in
    let ring = c.in-Some-get.ring.now in
    let here = ring_here h (λ q. touches q.shape c.args.at 4) h.rings n ring (sym placed.ring ∙ c.in-Some.is) refl (c.in-Some-get.ensures.lookup.1 ∙ ap (λ xs. get_or xs n ring) c.as_slice-rings.ensures) in
    event_flips h c.requires.headed k c.args.at c.args.word placed.aligned ring (among_at h.rings n ring here.0) here.1 (sym c.is_event_ring.ensures ∙ c.if-is_event_ring.true)

pub returns : goal.returns
returns c = λ k memory f placed.
    let h = c.args.header.now in
    let n = c.in-Some.number in
    let ring = c.in-Some-get.ring.now in
    let known = c.in-Some-get-2.known.now in
    let items = c.args.kept.now.rings.items in
    let here = ring_here h (λ q. touches q.shape c.args.at 4) h.rings n ring (sym placed.ring ∙ c.in-Some.is) refl (c.in-Some-get.ensures.lookup.1 ∙ ap (λ xs. get_or xs n ring) c.as_slice-rings.ensures) in
    let there = slice_get_read items (length items) n known refl (omega (arith, f.rings.as_many, slice_get_within h.rings n ring here.0)) (c.in-Some-get-2.ensures.lookup.1 ∙ ap (λ xs. get_or xs n known) c.as_slice-records.ensures.value) in
    let driver : is_driver_kind ring.shape.kind ≡ true = ap not (sym c.is_event_ring.ensures ∙ c.if-is_event_ring.false) in
    c.flips_passed.ensures (k.ring ring.id) (f.rings.each n ring known here.0 there driver)
    ∙ ring_flips h c.requires.headed k c.args.at c.args.word placed.aligned ring (among_at h.rings n ring here.0) here.1 driver
