-- A command ring that goes, or comes: what a driver keeps it keeps still
use Rattle.safety.proofs.MiddleLaws.{gone, IsNobodys, event_id, no_id, same_register, Cmd, is_in_run, [], ◌≡◌, ◌≢◌, ◌*◌, ◌==◌, ◌&&◌, ◌||◌, ◌++◌, ◌∷◌, ◌∙◌, if◌then◌else◌, ℕ, not, Bool, true, false, List, Option, Some, None, filter, is_some, arith, refl, sym, ap, subst, inl, inr, eq-eqb, ne_eqb, ltb-true, lt-ltb, nat_lt, fun_ext, cases_eq, cases_option, false≢true, false_from_ne_true, none-some, same_Some, not-false, or_parts, or_from, and_from, and_left, and_right, put, put_at, put_off, Segment, new_ring, IsComing, forgotten, is_bad_free, is_bad_ring, is_bad_segment, is_bad_kind, goes_badly, is_in_use, with_ring, without_ring, list_any, list_all, list_any-append, clash, is_shape, may_stand_together, IsIn, Evt, Xfer, RingKeeps, is_inside, device_context_bytes, Register, Crcr, Header, Ring, IsHeader, is_command_kind, is_event_kind, is_transfer_kind, ring_with, shape_of, shape_or, command_ring, command_id, event_ring, event_shape, event_size, place_count, id_or_none, touches_ring, touches, Known, entry_of, next_command, ceiling, given_count, unwrap_or, may_be_taken, is_done, is_named, IsDriverRing, IsTransferRing, DriverKeeps, covers, open_ranges, overlap, rings_overlap, found_in, header_parts, shape_is, ring_untouched, device_free, entry_free, each_good, block_shows, words_clean, touches_none, segment_some, all_more, together_more, none_found, overlaps_none, none_has_256, all_kept, found_kept, none_kept, together_kept, found_before, found_new, found_still, view_keeps, new_is_nobodys, AnotherRing, another_ring_kept, unnamed, nobodys_unmoved, Shape}
use Rattle.safety.proofs.RingChanges.LeftOut as left

-- of a ring of which nothing is known nothing can have been taken
pub nobody_untaken : (h : Header) (k : Known) → IsNobodys (k.ring (command_id h)) → may_be_taken h k ≡ false
unfolding may_be_taken ceiling
nobody_untaken h k none =
    let zero : ceiling (shape_of h (command_id h)) (k.ring (command_id h)) ≡ 0 = ap (λ o. unwrap_or o (given_count (shape_of h (command_id h)) (k.ring (command_id h)))) none.held in
    false_from_ne_true (may_be_taken h k) (λ may. absurd (omega (arith, ltb-true (next_command h k) (ceiling (shape_of h (command_id h)) (k.ring (command_id h))) may, zero)))

both_off : (a b : Bool) → (a && b) ≡ false → a ≡ true → b ≡ false
both_off a b none on = sym (ap (λ x. x && b) on) ∙ none

none_is : (o : Option ℕ) → is_some o ≡ false → o ≡ None
none_is o none = grind (arith, false≢true)

-- ---- a command ring that goes

module _ (h : Header) (is : IsHeader h) (k : Known) (d : DriverKeeps h k) (id : ℕ) (c : Ring) (found : ring_with h id ≡ Some c) (kind : c.shape.kind ≡ Cmd) (good : is_bad_free h k id ≡ false) where
  abbrev keep : Ring → Bool
  keep q = not (q.id == id)

  abbrev left_rings : List Ring
  left_rings = filter keep h.rings

  abbrev g : Header
  g = record h { rings = left_rings }

  -- if it was started the controller has halted, and has come to no command that isn't finished
  pub rests : k.started ≡ true → (is_done k.halt ≡ true) × (may_be_taken h k ≡ false)
  unfolding is_bad_free goes_badly is_in_use
  rests on =
      let used : is_in_use h k id c.shape.kind ≡ false = sym (ap (goes_badly h k id) found) ∙ good in
      let none : (k.started && (not (is_done k.halt) || may_be_taken h k)) ≡ false = sym (ap (is_in_use h k id) kind) ∙ used in
      let parts = or_parts (not (is_done k.halt)) (may_be_taken h k) (both_off k.started _ none on) in
      (not-false (is_done k.halt) parts.0, parts.1)

  pub some_id : id ≢ no_id
  some_id same = none_has_256 h is c (ap (ring_with h) (sym same) ∙ found)

  pub command_now : command_id g ≡ no_id
  unfolding command_id without_ring
  command_now = ap id_or_none (left.no_command_still h is id c found (ap (λ n. is_command_kind n) kind))

  -- it is the command ring
  pub is_command : command_id h ≡ id
  unfolding command_id command_ring without_ring
  is_command =
      elim (cases_option (command_ring h)) [
        | inl none ↦
            let at = (left.there h is id c found).0 in
            absurd (false≢true (sym (none_found (λ q. is_command_kind q.shape.kind) h.rings none c at) ∙ ap (λ n. is_command_kind n) kind))
        | inr some ↦ elim (cases_eq some.0.id id) [
          | inl same ↦ ap id_or_none some.1 ∙ same
          | inr other ↦
              let stays = found_kept (λ q. is_command_kind q.shape.kind) keep h.rings some.0 some.1 (left.stays h is id c found some.0 other) in
              absurd (none-some some.0 (sym (left.no_command_still h is id c found (ap (λ n. is_command_kind n) kind)) ∙ stays))
        ]
      ]

  no_event : event_id h ≢ id
  unfolding event_id event_ring
  no_event same =
      elim (cases_option (event_ring h)) [
        | inl none ↦ some_id (sym same ∙ ap id_or_none none)
        | inr some ↦
            let there = found_in (λ q. is_event_kind q.shape.kind) h.rings some.0 some.1 in
            let one = left.only_one h is id c found some.0 there.0 (sym (ap id_or_none some.1) ∙ same) in
            false≢true (sym (ap (λ n. is_event_kind n) kind) ∙ ap (λ (q : Ring). is_event_kind q.shape.kind) (sym one) ∙ there.1)
      ]

  pub events_same : event_shape g ≡ event_shape h
  unfolding event_shape without_ring
  events_same = ap (λ o. shape_or Evt o) (left.event_still h is id c found (ap (λ n. is_event_kind n) kind))

  pub size_same : event_size g ≡ event_size h
  unfolding event_size
  size_same = ap place_count events_same

  pub ring_same : (s : ℕ) → s ≢ id → ring_with g s ≡ ring_with h s
  unfolding without_ring
  ring_same s other = left.ring_same h is id c found s other

  pub shape_same : (s : ℕ) → s ≢ id → shape_of g s ≡ shape_of h s
  unfolding shape_of
  shape_same s other = ap (λ o. shape_or Xfer o) (ring_same s other)

  not_there : (s : ℕ) (q : Ring) → ring_with g s ≡ Some q → s ≢ id
  unfolding without_ring
  not_there s q at = left.not_there h is id c found s q at

  driver_before : (s : ℕ) → IsDriverRing g s → IsDriverRing h s
  driver_before s ring = record { ring = ring.ring; found = sym (ring_same s (not_there s ring.ring ring.found)) ∙ ring.found; kind = ring.kind }

  -- a transfer ring is another one
  pub transfer_other : (s : ℕ) → IsTransferRing h s → s ≢ id
  transfer_other s ring same =
      let one : ring.ring ≡ c = same_Some ring.ring c (sym ring.found ∙ ap (ring_with h) same ∙ found) in
      false≢true (sym (ap (λ n. is_transfer_kind n) kind) ∙ ap (λ (q : Ring). is_transfer_kind q.shape.kind) (sym one) ∙ ring.kind)

  transfer_still : (s : ℕ) → IsTransferRing h s → (s ≢ id) × IsTransferRing g s
  transfer_still s ring = (transfer_other s ring, record { ring = ring.ring; found = ring_same s (transfer_other s ring) ∙ ring.found; kind = ring.kind })

  area_apart : (from len : ℕ) → touches_ring h from len ≡ false → touches_ring g from len ≡ false
  unfolding touches_ring
  area_apart from len none = none_kept keep (λ q. touches q.shape from len) h.rings none

  pub left_another : AnotherRing h left_rings k id
  left_another = record {
    shapes = shape_same;
    events = events_same;
    size = size_same;
    had = λ s i x at. transfer_still x (d.states.transfer s i x at);
    some = some_id;
    fresh = subst IsNobodys (sym (put_off k.ring id new_ring (command_id g) (λ same. some_id (sym same ∙ command_now)))) (d.nobody (command_id g) command_now);
    unmoved = ap (λ n. (shape_of g n).offset) command_now ∙ ap (λ (shape : Shape). shape.offset) (shape_same no_id (λ same. some_id (sym same))) ∙ nobodys_unmoved h is;
    keeps = λ s ring.
        let other = not_there s ring.ring ring.found in
        subst (λ v. RingKeeps (shape_of g s) k.memory v) (sym (put_off k.ring id new_ring s other)) (subst (λ x. RingKeeps x k.memory (k.ring s)) (sym (shape_same s other)) (d.rings s (driver_before s ring)));
    clean = λ s a ring word inside. d.clean s a (driver_before s ring) word (ap (λ x. is_inside x a) (sym (shape_same s (not_there s ring.ring ring.found))) ∙ inside);
    devices = λ s e at. let device = d.devices s e at in (area_apart e (device_context_bytes h.context_size) device.rings, area_apart (entry_of k s) 8 device.entry_rings);
    halted = λ on. (rests on).0;
    untaken = λ on. (rests on).1;
  }

  -- CRCR is forgotten too; no word of an event was in it
  pub gone_is : gone h k id ≡ record k { ring = put k.ring id new_ring; register = unnamed k.register }
  unfolding gone forgotten
  gone_is = λ j. record k {
    ring = put k.ring id new_ring;
    register = fun_ext (λ q. ap (λ b. if same_register q Crcr && b then None else k.register q) (eq-eqb id (command_id h) (sym is_command)) ∙ ap (λ b. if b then None else k.register q) (and_true (same_register q Crcr))) j;
    soiled = fun_ext (λ a. ap (λ b. k.soiled a || (b && touches (event_shape h) a 4)) (ne_eqb id (event_id h) (λ same. no_event (sym same))) ∙ or_false (k.soiled a)) j;
  }
    where
      and_true : (b : Bool) → (b && true) ≡ b
      and_true o = grind arith

      or_false : (b : Bool) → (b || false) ≡ b
      or_false o = grind arith

  -- what a driver keeps, without the command ring
  pub command_goes_keeps : DriverKeeps (without_ring h id) (gone h k id)
  unfolding without_ring
  command_goes_keeps = subst (DriverKeeps g) (sym gone_is) (another_ring_kept h left_rings k id d left_another)

  pub command_goes_header : IsHeader (without_ring h id)
  unfolding without_ring
  command_goes_header =
      let was = header_parts h is in
      and_from (list_all (λ q. nat_lt q.id 256 && is_shape q.shape) left_rings) (may_stand_together left_rings)
      (all_kept keep (λ q. nat_lt q.id 256 && is_shape q.shape) h.rings was.0) (together_kept keep h.rings was.1)

-- ---- a command ring that comes

module _ (h : Header) (is : IsHeader h) (k : Known) (d : DriverKeeps h k) (r : Ring) (coming : IsComing r) (kind : r.shape.kind ≡ Cmd) (good : is_bad_ring h k r ≡ false) where
  abbrev more_rings : List Ring
  more_rings = h.rings ++ r ∷ []

  abbrev f : Header
  f = record h { rings = more_rings }

  pub record Parts : Type 0 where
    pub no_ring : ring_with h r.id ≡ None
    pub no_command : command_ring h ≡ None
    pub not_in_run : is_in_run k ≡ false
    pub halted : k.started ≡ true → is_done k.halt ≡ true
    pub segments : list_any (is_bad_segment h k) r.shape.segments ≡ false

  none_of : {X : Type 0} (o : Option X) → is_some o ≡ false → o ≡ None
  none_of o none = elim (cases_option o) [ inl is ↦ is | inr some ↦ absurd (false≢true (sym none ∙ ap (λ x. is_some x) some.1)) ]

  pub parts : Parts
  unfolding is_bad_ring is_bad_kind
  parts =
      let two = or_parts (is_some (ring_with h r.id) || is_bad_kind h k r.shape.kind) (list_any (is_bad_segment h k) r.shape.segments) good in
      let one = or_parts (is_some (ring_with h r.id)) (is_bad_kind h k r.shape.kind) two.0 in
      let kinds : (is_some (command_ring h) || is_in_run k) ≡ false = sym (ap (is_bad_kind h k) kind) ∙ one.1 in
      let three = or_parts (is_some (command_ring h)) (is_in_run k) kinds in
      record {
        no_ring = none_of (ring_with h r.id) one.0;
        no_command = none_of (command_ring h) three.0;
        not_in_run = three.1;
        halted = λ on. not-false (is_done k.halt) (both_off k.started (not (is_done k.halt)) three.1 on);
        segments = two.1;
      }

  -- no ring has the ID of the command ring
  pub nobodys : command_id h ≡ no_id
  unfolding command_id
  nobodys = ap id_or_none parts.no_command

  pub not_named : is_named k ≡ false
  not_named =
      false_from_ne_true (is_named k) (λ named.
      let ring : IsDriverRing h (command_id h) = d.run.named named in
      none_has_256 h is ring.ring (ap (ring_with h) (sym nobodys) ∙ ring.found))

  pub another : (s : ℕ) (q : Ring) → ring_with h s ≡ Some q → s ≢ r.id
  another s q at same = none-some q (sym parts.no_ring ∙ ap (ring_with h) (sym same) ∙ at)

  pub ring_before : (s : ℕ) → s ≢ r.id → ring_with f s ≡ ring_with h s
  ring_before s other = found_before (λ q. q.id == s) h.rings r (ne_eqb r.id s (λ same. other (sym same)))

  pub shape_before : (s : ℕ) → s ≢ r.id → shape_of f s ≡ shape_of h s
  unfolding shape_of
  shape_before s other = ap (λ o. shape_or Xfer o) (ring_before s other)

  pub shape_here : shape_of f r.id ≡ r.shape
  shape_here = shape_is f r.id r (found_new (λ q. q.id == r.id) h.rings r parts.no_ring (eq-eqb r.id r.id refl))

  pub command_is : command_id f ≡ r.id
  unfolding command_id command_ring
  command_is = ap id_or_none (found_new (λ q. is_command_kind q.shape.kind) h.rings r parts.no_command (ap (λ n. is_command_kind n) kind))

  pub events_before : event_shape f ≡ event_shape h
  unfolding event_shape event_ring
  events_before = ap (λ o. shape_or Evt o) (found_before (λ q. is_event_kind q.shape.kind) h.rings r (ap (λ n. is_event_kind n) kind))

  pub size_before : event_size f ≡ event_size h
  unfolding event_size
  size_before = ap place_count events_before

  was_driver : (s : ℕ) → s ≢ r.id → IsDriverRing f s → IsDriverRing h s
  was_driver s other ring = record { ring = ring.ring; found = sym (ring_before s other) ∙ ring.found; kind = ring.kind }

  still_transfer : (s : ℕ) → IsTransferRing h s → (s ≢ r.id) × IsTransferRing f s
  still_transfer s ring =
      (another s ring.ring ring.found, record { ring = ring.ring; found = found_still (λ q. q.id == s) h.rings r ring.ring ring.found; kind = ring.kind })

  shape_apart : (from len : ℕ) → ((s : Segment) → IsIn s r.shape.segments → overlap s.base (16 * s.count) from len ≡ false) → touches_ring h from len ≡ false → touches_ring f from len ≡ false
  unfolding touches_ring
  shape_apart from len apart before =
      list_any-append (λ q. touches q.shape from len) h.rings (r ∷ [])
      ∙ or_from (list_any (λ q. touches q.shape from len) h.rings) (touches r.shape from len || false) before
      (or_from (touches r.shape from len) false (touches_none h k r.shape coming.shape parts.segments from len apart) refl)

  leases : (t : Segment) → IsIn t r.shape.segments → list_any (covers h t.base (16 * t.count)) (open_ranges h k) ≡ false
  leases t at = (each_good h k r.shape coming.shape parts.segments t at).leases

  pub coming_another : AnotherRing h more_rings k r.id
  coming_another = record {
    shapes = shape_before;
    events = events_before;
    size = size_before;
    had = λ s i x at. still_transfer x (d.states.transfer s i x at);
    some = λ same. omega (arith, same, coming.low);
    fresh = subst IsNobodys (sym (ap (put k.ring r.id new_ring) command_is ∙ put_at k.ring r.id new_ring)) new_is_nobodys;
    unmoved = ap (λ n. (shape_of f n).offset) command_is ∙ ap (λ (shape : Shape). shape.offset) shape_here ∙ coming.unmoved;
    keeps = λ s ring. elim (cases_eq s r.id) [
      | inl here ↦ subst (λ n. RingKeeps (shape_of f n) k.memory (put k.ring r.id new_ring n)) (sym here)
          (subst (λ v. RingKeeps (shape_of f r.id) k.memory v) (sym (put_at k.ring r.id new_ring))
          (subst (λ x. RingKeeps x k.memory new_ring) (sym shape_here) (view_keeps k r coming (block_shows h k r.shape coming.shape parts.segments))))
      | inr other ↦ subst (λ v. RingKeeps (shape_of f s) k.memory v) (sym (put_off k.ring r.id new_ring s other))
          (subst (λ x. RingKeeps x k.memory (k.ring s)) (sym (shape_before s other)) (d.rings s (was_driver s other ring)))
    ];
    clean = λ s a ring word inside. elim (cases_eq s r.id) [
      | inl here ↦ words_clean h k r.shape coming.shape parts.segments a word (ap (λ x. is_inside x a) (sym (ap (λ n. shape_of f n) here ∙ shape_here)) ∙ inside)
      | inr other ↦ d.clean s a (was_driver s other ring) word (ap (λ x. is_inside x a) (sym (shape_before s other)) ∙ inside)
    ];
    devices = λ s e at.
        let device = d.devices s e at in (
          shape_apart e (device_context_bytes h.context_size) (λ t in_it. device_free h k t.base (16 * t.count) (leases t in_it) s e device.slot.0 device.slot.1 at) device.rings,
          shape_apart (entry_of k s) 8 (λ t in_it. entry_free h k t.base (16 * t.count) (leases t in_it) s e device.slot.0 device.slot.1 at) device.entry_rings,
        );
    halted = parts.halted;
    untaken = λ on. nobody_untaken h k (d.nobody (command_id h) nobodys);
  }

  unnamed_already : (values : Register → Option ℕ) → is_some (values Crcr) ≡ false → (q : Register) → values q ≡ unnamed values q
  unnamed_already values none Crcr = none_is (values Crcr) none
  unnamed_already values none _ = refl

  -- CRCR names nothing as it is
  pub forgotten_is : forgotten k r.id ≡ record k { ring = put k.ring r.id new_ring; register = unnamed k.register }
  unfolding forgotten
  forgotten_is = λ j. record k { ring = put k.ring r.id new_ring; register = fun_ext (unnamed_already k.register not_named) j }

  -- what a driver keeps, with the command ring that comes
  pub command_comes_keeps : DriverKeeps (with_ring h r) (forgotten k r.id)
  unfolding with_ring
  command_comes_keeps = subst (DriverKeeps f) (sym forgotten_is) (another_ring_kept h more_rings k r.id d coming_another)

  pub command_comes_header : IsHeader (with_ring h r)
  unfolding with_ring command_ring
  command_comes_header =
      let was = header_parts h is in
      let own : (nat_lt r.id 256 && is_shape r.shape) ≡ true = and_from (nat_lt r.id 256) (is_shape r.shape) (lt-ltb r.id 256 coming.low) coming.shape in
      let apart : (q : Ring) → IsIn q h.rings → clash q r ≡ false = λ q at.
      or_from _ (is_event_kind q.shape.kind && is_event_kind r.shape.kind)
      (or_from _ (is_command_kind q.shape.kind && is_command_kind r.shape.kind)
      (or_from (q.id == r.id) (rings_overlap q.shape r.shape) (none_found (λ x. x.id == r.id) h.rings parts.no_ring q at)
      (overlaps_none q.shape r.shape (segment_some r.shape coming.shape) (λ t in_it. ring_untouched h t.base (16 * t.count) (each_good h k r.shape coming.shape parts.segments t in_it).rings q at)))
      (and_left (is_command_kind q.shape.kind) (is_command_kind r.shape.kind) (none_found (λ x. is_command_kind x.shape.kind) h.rings parts.no_command q at)))
      (and_right (is_event_kind q.shape.kind) (is_event_kind r.shape.kind) (ap (λ n. is_event_kind n) kind)) in
      and_from (list_all (λ q. nat_lt q.id 256 && is_shape q.shape) more_rings) (may_stand_together more_rings)
      (all_more (λ q. nat_lt q.id 256 && is_shape q.shape) h.rings r was.0 own) (together_more h.rings r was.1 apart)
