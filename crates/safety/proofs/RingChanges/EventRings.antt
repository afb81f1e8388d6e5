-- An event ring that goes, or comes: what a driver keeps it keeps still
use Rattle.safety.proofs.MiddleLaws.{gone, event_id, no_id, same_register, is_written, [], ◌≡◌, ◌≢◌, ◌<◌, ◌==◌, ◌&&◌, ◌||◌, ◌++◌, ◌∷◌, ◌∙◌, ℕ, not, Bool, true, false, List, Option, Some, None, filter, is_some, arith, refl, sym, ap, subst, inl, inr, rules, eq-eqb, ne_eqb, lt-ltb, nat_lt, fun_ext, cases_eq, cases_option, cond-false, false≢true, false_from_ne_true, none-some, same_Some, or_parts, or_from, and_from, and_left, and_right, put, new_ring, IsComing, forgotten, is_bad_free, is_bad_ring, is_bad_segment, is_bad_kind, goes_badly, is_in_use, ◌*◌, with_ring, without_ring, list_any, list_all, clash, is_shape, may_stand_together, IsIn, Evt, Xfer, is_inside, Crcr, Erstsz, Header, Ring, IsHeader, is_command_kind, is_event_kind, is_driver_kind, ring_with, shape_of, shape_or, command_ring, command_id, event_ring, event_shape, event_size, place_count, id_or_none, touches, Known, IsDriverRing, DriverKeeps, rings_overlap, found_in, header_parts, ring_untouched, command_named, each_good, segment_some, all_more, together_more, none_found, overlaps_none, no_events, ring_not_event, command_with, none_has_256, all_kept, found_kept, together_kept, found_before, found_new, found_still, AnotherEvents, another_events_kept}
use Rattle.safety.proofs.RingChanges.LeftOut as left

none_of : {X : Type 0} (o : Option X) → is_some o ≡ false → o ≡ None
none_of o none = elim (cases_option o) [ inl is ↦ is | inr some ↦ absurd (false≢true (sym none ∙ ap (λ x. is_some x) some.1)) ]

-- ---- an event ring that goes

module _ (h : Header) (is : IsHeader h) (k : Known) (d : DriverKeeps h k) (id : ℕ) (e : Ring) (found : ring_with h id ≡ Some e) (kind : e.shape.kind ≡ Evt) (good : is_bad_free h k id ≡ false) where
  abbrev keep : Ring → Bool
  keep q = not (q.id == id)

  abbrev pub left_rings : List Ring
  left_rings = filter keep h.rings

  abbrev g : Header
  g = record h { rings = left_rings }

  -- what was an event's the controller may have written
  abbrev pub soiled_now : ℕ → Bool
  soiled_now a = k.soiled a || touches (event_shape h) a 4

  -- the controller isn't started, and the ring isn't set up
  pub unused : (k.started ≡ false) × (k.register Erstsz ≡ None)
  unfolding is_bad_free goes_badly is_in_use is_written
  unused =
      let used : is_in_use h k id e.shape.kind ≡ false = sym (ap (goes_badly h k id) found) ∙ good in
      let none : (k.started || is_some (k.register Erstsz)) ≡ false = sym (ap (is_in_use h k id) kind) ∙ used in
      let parts = or_parts k.started (is_some (k.register Erstsz)) none in
      (parts.0, none_of (k.register Erstsz) parts.1)

  some_id : id ≢ no_id
  some_id same = none_has_256 h is e (ap (ring_with h) (sym same) ∙ found)

  no_command : command_id h ≢ id
  unfolding command_id command_ring
  no_command same =
      elim (cases_option (command_ring h)) [
        | inl none ↦ some_id (sym same ∙ ap id_or_none none)
        | inr some ↦
            let there = found_in (λ q. is_command_kind q.shape.kind) h.rings some.0 some.1 in
            let one = left.only_one h is id e found some.0 there.0 (sym (ap id_or_none some.1) ∙ same) in
            false≢true (sym (ap (λ n. is_command_kind n) kind) ∙ ap (λ (q : Ring). is_command_kind q.shape.kind) (sym one) ∙ there.1)
      ]

  -- it is the event ring
  is_event : event_id h ≡ id
  unfolding event_id event_ring without_ring
  is_event =
      elim (cases_option (event_ring h)) [
        | inl none ↦
            let at = (left.there h is id e found).0 in
            absurd (false≢true (sym (none_found (λ q. is_event_kind q.shape.kind) h.rings none e at) ∙ ap (λ n. is_event_kind n) kind))
        | inr some ↦ elim (cases_eq some.0.id id) [
          | inl same ↦ ap id_or_none some.1 ∙ same
          | inr other ↦
              let stays = found_kept (λ q. is_event_kind q.shape.kind) keep h.rings some.0 some.1 (left.stays h is id e found some.0 other) in
              absurd (none-some some.0 (sym (left.no_event_still h is id e found (ap (λ n. is_event_kind n) kind)) ∙ stays))
        ]
      ]

  command_same : command_id g ≡ command_id h
  unfolding command_id without_ring
  command_same = ap id_or_none (left.command_still h is id e found (ap (λ n. is_command_kind n) kind))

  ring_same : (s : ℕ) → s ≢ id → ring_with g s ≡ ring_with h s
  unfolding without_ring
  ring_same s other = left.ring_same h is id e found s other

  shape_same : (s : ℕ) → s ≢ id → shape_of g s ≡ shape_of h s
  unfolding shape_of
  shape_same s other = ap (λ o. shape_or Xfer o) (ring_same s other)

  not_there : (s : ℕ) (q : Ring) → ring_with g s ≡ Some q → s ≢ id
  unfolding without_ring
  not_there s q at = left.not_there h is id e found s q at

  driver_before : (s : ℕ) → IsDriverRing g s → IsDriverRing h s
  driver_before s ring = record { ring = ring.ring; found = sym (ring_same s (not_there s ring.ring ring.found)) ∙ ring.found; kind = ring.kind }

  -- a command or transfer ring is another one
  driver_other : (s : ℕ) → IsDriverRing h s → s ≢ id
  driver_other s ring same =
      let one : ring.ring ≡ e = same_Some ring.ring e (sym ring.found ∙ ap (ring_with h) same ∙ found) in
      false≢true (sym (ap (λ n. is_driver_kind n) kind) ∙ ap (λ (q : Ring). is_driver_kind q.shape.kind) (sym one) ∙ ring.kind)

  inside_before : (s a : ℕ) → IsDriverRing g s → is_inside (shape_of g s) a ≡ true → is_inside (shape_of h s) a ≡ true
  inside_before s a ring inside = ap (λ x. is_inside x a) (sym (shape_same s (not_there s ring.ring ring.found))) ∙ inside

  pub left_another : AnotherEvents h left_rings k id soiled_now
  left_another = record {
    shapes = shape_same;
    command = command_same;
    command_other = no_command;
    was_driver = λ s ring. (not_there s ring.ring ring.found, driver_before s ring);
    driver = λ s ring. record { ring = ring.ring; found = ring_same s (driver_other s ring) ∙ ring.found; kind = ring.kind };
    clean = λ s a ring word inside.
        let was = driver_before s ring in
        let at = inside_before s a ring inside in
        or_from (k.soiled a) (touches (event_shape h) a 4) (d.clean s a was word at) (ring_not_event h is s a was word at);
    quiet = λ a clean apart. or_parts (k.soiled a) (touches (event_shape h) a 4) clean;
    before = unused.0;
    unwritten = unused.1;
  }

  -- CRCR is what it was
  pub gone_is : gone h k id ≡ record k { ring = put k.ring id new_ring; soiled = soiled_now }
  unfolding gone forgotten
  gone_is = λ j. record k {
    ring = put k.ring id new_ring;
    register = fun_ext (λ q. cond-false (same_register q Crcr && id == command_id h) None (k.register q) (and_right (same_register q Crcr) (id == command_id h) (ne_eqb id (command_id h) (λ same. no_command (sym same))))) j;
    soiled = fun_ext (λ a. ap (λ b. k.soiled a || (b && touches (event_shape h) a 4)) (eq-eqb id (event_id h) (sym is_event))) j;
  }

  -- what a driver keeps, without the event ring
  pub event_goes_keeps : DriverKeeps (without_ring h id) (gone h k id)
  unfolding without_ring
  event_goes_keeps = subst (DriverKeeps g) (sym gone_is) (another_events_kept h left_rings k id soiled_now d left_another)

  pub event_goes_header : IsHeader (without_ring h id)
  unfolding without_ring
  event_goes_header =
      let was = header_parts h is in
      and_from (list_all (λ q. nat_lt q.id 256 && is_shape q.shape) left_rings) (may_stand_together left_rings)
      (all_kept keep (λ q. nat_lt q.id 256 && is_shape q.shape) h.rings was.0) (together_kept keep h.rings was.1)

-- ---- an event ring that comes

module _ (h : Header) (is : IsHeader h) (k : Known) (d : DriverKeeps h k) (r : Ring) (coming : IsComing r) (kind : r.shape.kind ≡ Evt) (good : is_bad_ring h k r ≡ false) where
  abbrev pub more_rings : List Ring
  more_rings = h.rings ++ r ∷ []

  abbrev f : Header
  f = record h { rings = more_rings }

  pub record Parts : Type 0 where
    pub no_ring : ring_with h r.id ≡ None
    pub no_event : event_ring h ≡ None
    pub before : k.started ≡ false
    pub segments : list_any (is_bad_segment h k) r.shape.segments ≡ false

  pub parts : Parts
  unfolding is_bad_ring is_bad_kind
  parts =
      let two = or_parts (is_some (ring_with h r.id) || is_bad_kind h k r.shape.kind) (list_any (is_bad_segment h k) r.shape.segments) good in
      let one = or_parts (is_some (ring_with h r.id)) (is_bad_kind h k r.shape.kind) two.0 in
      let kinds : (is_some (event_ring h) || k.started) ≡ false = sym (ap (is_bad_kind h k) kind) ∙ one.1 in
      let three = or_parts (is_some (event_ring h)) k.started kinds in
      record { no_ring = none_of (ring_with h r.id) one.0; no_event = none_of (event_ring h) three.0; before = three.1; segments = two.1 }

  another : (s : ℕ) (q : Ring) → ring_with h s ≡ Some q → s ≢ r.id
  another s q at same = none-some q (sym parts.no_ring ∙ ap (ring_with h) (sym same) ∙ at)

  ring_before : (s : ℕ) → s ≢ r.id → ring_with f s ≡ ring_with h s
  ring_before s other = found_before (λ q. q.id == s) h.rings r (ne_eqb r.id s (λ same. other (sym same)))

  shape_before : (s : ℕ) → s ≢ r.id → shape_of f s ≡ shape_of h s
  unfolding shape_of
  shape_before s other = ap (λ o. shape_or Xfer o) (ring_before s other)

  command_before : command_id f ≡ command_id h
  unfolding command_id command_ring
  command_before = ap id_or_none (found_before (λ q. is_command_kind q.shape.kind) h.rings r (ap (λ n. is_command_kind n) kind))

  other_command : command_id h ≢ r.id
  other_command same = search (rules, cases_option, command_named, another, command_with)

  -- it is no driver's ring
  not_new : (s : ℕ) → IsDriverRing f s → s ≢ r.id
  not_new s ring same =
      let here : ring_with f r.id ≡ Some r = found_new (λ q. q.id == r.id) h.rings r parts.no_ring (eq-eqb r.id r.id refl) in
      let one : ring.ring ≡ r = same_Some ring.ring r (sym ring.found ∙ ap (ring_with f) same ∙ here) in
      false≢true (sym (ap (λ n. is_driver_kind n) kind) ∙ ap (λ (q : Ring). is_driver_kind q.shape.kind) (sym one) ∙ ring.kind)

  was_driver : (s : ℕ) → IsDriverRing f s → IsDriverRing h s
  was_driver s ring = record { ring = ring.ring; found = sym (ring_before s (not_new s ring)) ∙ ring.found; kind = ring.kind }

  -- without an event ring there is no room for events
  no_room : event_size h ≡ 0
  unfolding event_size event_shape
  no_room = ap (λ o. place_count (shape_or Evt o)) parts.no_event

  pub coming_another : AnotherEvents h more_rings k r.id k.soiled
  coming_another = record {
    shapes = shape_before;
    command = command_before;
    command_other = other_command;
    was_driver = λ s ring. (not_new s ring, was_driver s ring);
    driver = λ s ring. record { ring = ring.ring; found = found_still (λ q. q.id == s) h.rings r ring.ring ring.found; kind = ring.kind };
    clean = λ s a ring word inside. d.clean s a (was_driver s ring) word (ap (λ x. is_inside x a) (sym (shape_before s (not_new s ring))) ∙ inside);
    quiet = λ a clean apart. (clean, no_events h is no_room a);
    before = parts.before;
    unwritten = none_of (k.register Erstsz) (false_from_ne_true (is_some (k.register Erstsz)) (λ written. let some : 0 < event_size h = d.sized written in omega (arith, some, no_room)));
  }

  -- what a driver keeps, with the event ring that comes
  pub event_comes_keeps : DriverKeeps (with_ring h r) (forgotten k r.id)
  unfolding with_ring forgotten
  event_comes_keeps = another_events_kept h more_rings k r.id k.soiled d coming_another

  pub event_comes_header : IsHeader (with_ring h r)
  unfolding with_ring event_ring
  event_comes_header =
      let was = header_parts h is in
      let own : (nat_lt r.id 256 && is_shape r.shape) ≡ true = and_from (nat_lt r.id 256) (is_shape r.shape) (lt-ltb r.id 256 coming.low) coming.shape in
      let apart : (q : Ring) → IsIn q h.rings → clash q r ≡ false = λ q at.
      or_from _ (is_event_kind q.shape.kind && is_event_kind r.shape.kind)
      (or_from _ (is_command_kind q.shape.kind && is_command_kind r.shape.kind)
      (or_from (q.id == r.id) (rings_overlap q.shape r.shape) (none_found (λ x. x.id == r.id) h.rings parts.no_ring q at)
      (overlaps_none q.shape r.shape (segment_some r.shape coming.shape) (λ t in_it. ring_untouched h t.base (16 * t.count) (each_good h k r.shape coming.shape parts.segments t in_it).rings q at)))
      (and_right (is_command_kind q.shape.kind) (is_command_kind r.shape.kind) (ap (λ n. is_command_kind n) kind)))
      (and_left (is_event_kind q.shape.kind) (is_event_kind r.shape.kind) (none_found (λ x. is_event_kind x.shape.kind) h.rings parts.no_event q at)) in
      and_from (list_all (λ q. nat_lt q.id 256 && is_shape q.shape) more_rings) (may_stand_together more_rings)
      (all_more (λ q. nat_lt q.id 256 && is_shape q.shape) h.rings r was.0 own) (together_more h.rings r was.1 apart)
