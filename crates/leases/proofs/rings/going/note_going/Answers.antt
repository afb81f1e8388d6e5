use Rattle.leases.proofs.Laws.{◌≡◌, ◌==◌, ◌∙◌, ℕ, List, get_or, map, ap, refl, subst, sym, HoldsAll, Leased, Lent, AreOpen, FollowsRing, IsShape, Shape, StandFrom, command_found, command_id, command_id_is, ended_where, event_here, event_shape, true, in_turn, is_among, is_command_kind, is_driver_kind, is_event_kind, is_input_context, is_of_ring, not_found, none_here, open_leases, segment_ranges, segments_in_turn, shape_allowed, shape_of, shape_there, Cmd, Evt, Xfer, some_end, turned_of, all_ended, on_more, record_there, command_over, event_over, going_good, none_goes, transfer_over, goes_held, segments_stand, contexts_in_step}
use Rattle.leases.proofs.RingLeases.Going.{ring_at}
use Rattle.leases.proofs.rings.going.note_going.Goals as goal

pub returns-in_default : goal.returns-in_default
returns-in_default g c = λ list k ts memory next early all.
    let h = c.args.header.now in
    let id = c.args.id in
    let none = sym (c.ring_named.ensures h.rings c.requires.found) ∙ c.in_default.is in
    absurd (none_goes h k id (going_good h k id next.clean) (not_found (λ q. q.id == id) h.rings (none_here h (λ q. q.id == id) h.rings none refl)))

pub returns-in-Evt : goal.returns-in-Evt
returns-in-Evt g c = on_more c.end_segments.result (λ ends. λ list k ts memory next early all.
    let h = c.args.header.now in
    let is = c.requires.headed in
    let id = c.args.id in
    let n = c.args.number in
    let x = c.args.ranges.now in
    let q = c.in-Some-get.ring.now in
    let there = ring_at h is id c.in-Some.place q (sym (c.ring_named.ensures h.rings c.requires.found) ∙ c.in-Some.is) (c.in-Some-get.ensures.lookup.1 ∙ ap (λ xs. get_or xs c.in-Some.place q) c.as_slice-rings.ensures) in
    let good = going_good h k id next.clean in
    let kind : q.shape.kind ≡ Evt = sym c.kind.ensures ∙ c.in-Evt.is in
    let shape : event_shape h ≡ q.shape = event_here h is q there.among (ap is_event_kind kind) in
    let allowed : IsShape (event_shape h) = subst IsShape (sym shape) (shape_allowed h is q there.among) in
    let turned : segments_in_turn c.segments.result.now ≡ in_turn (segment_ranges h) = ap segments_in_turn c.segments.ensures ∙ ap (λ (s : Shape). segments_in_turn s.segments) (sym shape) ∙ turned_of h in
    let stand = segments_stand h k allowed ts x next.step all.found in
    goes_held h is k next.keeps next.tables id q there.found good n early ts next.step.opened (g.B.LeaseLog.holds list) (g.met.B.LeaseLog.other_rings list) c.end_segments.new.book x
    (subst (λ (us : List Lent). HoldsAll (g.B.LeaseLog.holds list) h us c.end_segments.new.book x) (event_over h is k id q there.found n ts next.step.opened kind)
    (record {
      held = subst (λ (ls : List Leased). g.B.LeaseLog.holds list h (map (ended_where (is_among ls) n) ts) c.end_segments.new.book) turned
          (ends list h ts all.held (subst (λ (ls : List Leased). StandFrom ts ls x.segments) (sym turned) stand));
      found = some_end h x (is_among (in_turn (segment_ranges h))) n ts all.found;
    }))) c.end_segments.ensures

pub returns-in-Cmd : goal.returns-in-Cmd
returns-in-Cmd g c = λ list k ts memory next early all.
    let h = c.args.header.now in
    let is = c.requires.headed in
    let id = c.args.id in
    let n = c.args.number in
    let x = c.args.ranges.now in
    let q = c.in-Some-get.ring.now in
    let there = ring_at h is id c.in-Some.place q (sym (c.ring_named.ensures h.rings c.requires.found) ∙ c.in-Some.is) (c.in-Some-get.ensures.lookup.1 ∙ ap (λ xs. get_or xs c.in-Some.place q) c.as_slice-rings.ensures) in
    let good = going_good h k id next.clean in
    let kind : q.shape.kind ≡ Cmd = sym c.kind.ensures ∙ c.in-Cmd.is in
    let follows =
    next.followed.rings.each c.in-Some.place q c.in-Some-get-2.known.now there.at (record_there _ _ _ _ c.as_slice-records.ensures.value c.in-Some-get-2.ensures.lookup.0 c.in-Some-get-2.ensures.lookup.1) (ap is_driver_kind kind) in
    let shaped = shape_there h is q there.among in
    let commands : command_id h ≡ q.id = command_id_is h q (command_found h is q there.among (ap is_command_kind kind)) in
    let known : FollowsRing q.shape (k.ring (command_id h)) c.in-Some-get-2.known.now = subst (λ (i : ℕ). FollowsRing q.shape (k.ring i) c.in-Some-get-2.known.now) (sym commands) follows in
    let first = c.end_contexts.ensures list k ts (ap (shape_of h) commands ∙ shaped) known next.keeps next.step.opened (contexts_in_step h k ts next.step) all in
    let without : List Lent = map (ended_where is_input_context n) ts in
    let open_left : AreOpen h k without = all_ended (λ i l. is_among (open_leases h k) l ≡ true) is_input_context n 0 ts next.step.opened in
    goes_held h is k next.keeps next.tables id q there.found good n early ts next.step.opened (g.B.LeaseLog.holds list) (g.met.B.LeaseLog.other_rings list) c.end_ring.new.book x
    (subst (λ (us : List Lent). HoldsAll (g.B.LeaseLog.holds list) h us c.end_ring.new.book x) (command_over h is k id q there.found n ts kind)
    (record {
      held = subst (λ (i : ℕ). g.B.LeaseLog.holds list h (map (ended_where (is_of_ring i) n) without) c.end_ring.new.book) there.same (c.end_ring.ensures list h k without is shaped follows open_left first.held);
      found = some_end h x (is_of_ring id) n without first.found;
    }))

pub returns-in-Xfer : goal.returns-in-Xfer
returns-in-Xfer g c = λ list k ts memory next early all.
    let h = c.args.header.now in
    let is = c.requires.headed in
    let id = c.args.id in
    let n = c.args.number in
    let x = c.args.ranges.now in
    let q = c.in-Some-get.ring.now in
    let there = ring_at h is id c.in-Some.place q (sym (c.ring_named.ensures h.rings c.requires.found) ∙ c.in-Some.is) (c.in-Some-get.ensures.lookup.1 ∙ ap (λ xs. get_or xs c.in-Some.place q) c.as_slice-rings.ensures) in
    let good = going_good h k id next.clean in
    let kind : q.shape.kind ≡ Xfer = sym c.kind.ensures ∙ c.in-Xfer.is in
    let follows =
    next.followed.rings.each c.in-Some.place q c.in-Some-get-2.known.now there.at (record_there _ _ _ _ c.as_slice-records.ensures.value c.in-Some-get-2.ensures.lookup.0 c.in-Some-get-2.ensures.lookup.1) (ap is_driver_kind kind) in
    goes_held h is k next.keeps next.tables id q there.found good n early ts next.step.opened (g.B.LeaseLog.holds list) (g.met.B.LeaseLog.other_rings list) c.end_ring-in-Xfer.new.book x
    (subst (λ (us : List Lent). HoldsAll (g.B.LeaseLog.holds list) h us c.end_ring-in-Xfer.new.book x) (transfer_over h is k id q there.found n ts kind)
    (record {
      held = subst (λ (i : ℕ). g.B.LeaseLog.holds list h (map (ended_where (is_of_ring i) n) ts) c.end_ring-in-Xfer.new.book) there.same (c.end_ring-in-Xfer.ensures list h k ts is (shape_there h is q there.among) follows next.step.opened all.held);
      found = some_end h x (is_of_ring id) n ts all.found;
    }))
