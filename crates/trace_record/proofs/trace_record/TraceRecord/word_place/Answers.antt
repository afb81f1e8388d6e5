use Rattle.trace_record.proofs.Laws.{◌≡◌, ◌∙◌, true, None, get_or, sym, ap, arith, refl, length, not, position, slice_get_read, slice_get_within, touches, is_driver_kind, ring_here, none_here, among_at, inside_is, rings_nowhere, rings_in_events, rings_here, given_by_ring, none_in_events, none_nowhere, command_here, none_by, nothing_of_events, given_on}
use Rattle.trace_record.proofs.trace_record.TraceRecord.word_place.Goals as goal

pub returns-in_default-clause-placed : goal.returns-in_default-clause-placed
returns-in_default-clause-placed c = λ k rings.
    let h = c.args.header.now in
    let none = none_here h (λ q. touches q.shape c.get.result 4) h.rings (sym c.ring_at.ensures ∙ c.in_default.is) refl in
    record {
      aligned = c.get.ensures.aligned;
      ring = sym c.in_default.is ∙ c.ring_at.ensures ∙ ap (λ n. position (λ q. touches q.shape n 4) h.rings) c.get.ensures.same;
      lent = rings_nowhere h c.requires.headed k c.args.at c.get.ensures.aligned (λ q among. ap (λ n. touches q.shape n 4) (sym c.get.ensures.same) ∙ none q among);
      given = refl;
      command = sym (none_nowhere h c.requires.headed k c.args.at c.args.word c.get.ensures.aligned
          (λ q among. sym (inside_is h c.requires.headed k c.args.at c.get.ensures.aligned q among) ∙ ap (λ n. touches q.shape n 4) (sym c.get.ensures.same) ∙ none q among));
    }

pub returns-then-is_event_ring-clause-placed : goal.returns-then-is_event_ring-clause-placed
returns-then-is_event_ring-clause-placed c = λ k rings.
    let h = c.args.header.now in
    let aligned = c.get.ensures.aligned in
    let first = sym (sym c.in-Some.is ∙ c.ring_at.ensures ∙ ap (λ n. position (λ q. touches q.shape n 4) h.rings) c.get.ensures.same) in
    let ring = c.index-rings-number.result in
    let here = ring_here h (λ q. touches q.shape c.args.at 4) h.rings c.in-Some.number ring first refl (c.index-rings-number.is ∙ ap (λ xs. get_or xs c.in-Some.number ring) c.as_slice-rings.ensures) in
    let touched : touches ring.shape c.args.at 4 ≡ true = here.1 in
    let event = sym c.is_event_ring.ensures ∙ c.if-is_event_ring.true in
    record {
      aligned = aligned;
      ring = sym first;
      lent = rings_in_events h c.requires.headed k c.args.at aligned ring (among_at h.rings c.in-Some.number ring here.0) event touched;
      given = nothing_of_events h k c.args.at c.args.word c.in-Some.number ring here.0 event;
      command = command_here h k c.args.at c.args.word c.in-Some.number ring here.0 true None ∙ none_by k ring ∙ sym (none_in_events h c.requires.headed k c.args.at c.args.word aligned ring (among_at h.rings c.in-Some.number ring here.0)
          (sym (inside_is h c.requires.headed k c.args.at aligned ring (among_at h.rings c.in-Some.number ring here.0)) ∙ touched) event);
    }

pub returns-in-Some-get-clause-placed : goal.returns-in-Some-get-clause-placed
returns-in-Some-get-clause-placed c = λ k rings.
    let h = c.args.header.now in
    let aligned = c.get.ensures.aligned in
    let first = sym (sym c.in-Some.is ∙ c.ring_at.ensures ∙ ap (λ n. position (λ q. touches q.shape n 4) h.rings) c.get.ensures.same) in
    let q = c.index-rings-number.result in
    let here = ring_here h (λ q. touches q.shape c.args.at 4) h.rings c.in-Some.number q first refl (c.index-rings-number.is ∙ ap (λ xs. get_or xs c.in-Some.number q) c.as_slice-rings.ensures) in
    let touched : touches q.shape c.args.at 4 ≡ true = here.1 in
    let driver : is_driver_kind q.shape.kind ≡ true = ap not (sym c.is_event_ring.ensures ∙ c.if-is_event_ring.false) in
    let items = c.args.self.now.rings.items in
    let within = slice_get_within h.rings c.in-Some.number q here.0 in
    let there = slice_get_read items (length items) c.in-Some.number c.in-Some-get.known.now refl (omega (arith, rings.as_many, within)) (c.in-Some-get.ensures.lookup.1 ∙ ap (λ xs. get_or xs c.in-Some.number c.in-Some-get.known.now) c.deref.ensures.value) in
    let follows = rings.each c.in-Some.number q c.in-Some-get.known.now here.0 there driver in
    let among = among_at h.rings c.in-Some.number q here.0 in
    let giving = c.look-standing.result.giving in
    let gives = c.look-standing.ensures.positions (k.ring q.id) follows in
    record {
      aligned = aligned;
      ring = sym first;
      lent = c.look-standing.ensures.lent (k.ring q.id) follows ∙ rings_here h c.requires.headed k c.args.at aligned q among driver touched;
      given = given_on h k c.args.at c.args.word c.in-Some.number q here.0 driver giving gives (c.look-standing.ensures.crossings (k.ring q.id) follows);
      command = command_here h k c.args.at c.args.word c.in-Some.number q here.0 c.look-standing.result.is_lent giving
          ∙ sym (given_by_ring h c.requires.headed k c.args.at c.args.word aligned q among (sym (inside_is h c.requires.headed k c.args.at aligned q among) ∙ touched) giving gives);
    }
