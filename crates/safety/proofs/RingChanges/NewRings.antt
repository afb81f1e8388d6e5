-- A ring that comes: what a driver keeps it keeps still
use Rattle.safety.proofs.LowerLaws.{[], ◌≡◌, ◌≢◌, ◌+◌, ◌-◌, ◌*◌, ◌%◌, ◌<◌, ◌==◌, ◌&&◌, ◌++◌, ◌∷◌, ◌∙◌, ℕ, Bool, true, false, List, Some, None, find, get_or, is_some, arith, refl, sym, ap, subst, inl, inr, eq-eqb, ne_eqb, add-zero, lt-ltb, nat_lt, rules, option_or, find-append, Segment, new_ring, link_address_is, crossed_link, crosses, link_aligned, crossing_due_is, new_ring_keeps, rings_overlap, IsComing, with_ring, is_bad_ring, is_bad_segment, list_all, and_from, and_right, clash, is_shape, may_stand_together, Block, World, FreeRing, state_of, Agrees, Data, Evt, Shape, list_any, list_any-append, cases_eq, cases_option, cond-true, cond-false, false≢true, none-some, or_parts, or_from, is_inside, place_count, address_of, cycle_of, link_address, RingKeeps, address_inside, link_address_inside, address_aligned, cycle_of-first, due_is, Xfer, device_context_bytes, input_context_bytes, Header, Ring, IsHeader, is_command_kind, is_event_kind, ring_with, shape_of, shape_or, command_ring, command_id, event_ring, event_shape, event_size, ring_having, id_of, id_or_none, touches_ring, Known, entry_of, Binding, binds, ring_bound, covers, open_ranges, overlap, IsIn, IsDriverRing, IsTransferRing, DriverKeeps, touches, context_lies, ring_untouched, transfer_ring, command_named, header_parts, shape_is, having_transfer, ◌||◌, is_bad_kind, command_with}
use Rattle.safety.proofs.DevicesKeep.AreaFacts.{context_free, device_free, entry_free}
use Rattle.safety.proofs.RingChanges.OtherRings.{free_new, other_worlds_agree, OtherRings, IsAsBefore, BindsAsBefore, other_rings_keep}
use Rattle.safety.proofs.RingChanges.Segments.{block_shows, each_good, segment_some, touches_none, words_clean}
use Rattle.safety.proofs.RingChanges.ListedRings.{all_more, none_found, overlaps_none, together_more}

-- ---- one ring more in a list

module _ (p : Ring → Bool) (rs : List Ring) (r : Ring) where
  pub found_before : p r ≡ false → find p (rs ++ r ∷ []) ≡ find p rs
  found_before fails = find-append p rs (r ∷ []) ∙ ap (option_or (find p rs)) (cond-false (p r) (Some r) None fails) ∙ (grind arith)

  pub found_still : (q : Ring) → find p rs ≡ Some q → find p (rs ++ r ∷ []) ≡ Some q
  found_still q found = find-append p rs (r ∷ []) ∙ ap (λ o. option_or o (find p (r ∷ []))) found

  pub found_new : find p rs ≡ None → p r ≡ true → find p (rs ++ r ∷ []) ≡ Some r
  found_new none passes = find-append p rs (r ∷ []) ∙ ap (λ o. option_or o (find p (r ∷ []))) none ∙ cond-true (p r) (Some r) None passes

-- ---- a new ring keeps the rules

other_than_one : (x c : ℕ) → (x % 2 == 1) ≡ false → c ≡ 1 → x % 2 ≢ c
other_than_one x c none one same = false≢true (sym none ∙ eq-eqb (x % 2) 1 (same ∙ one))

pub view_keeps : (k : Known) (r : Ring) → IsComing r → ((a : ℕ) → a % 16 ≡ 0 → is_inside r.shape a ≡ true → (k.memory (a + 12) % 2 == 1) ≡ false) → RingKeeps r.shape k.memory new_ring
view_keeps k r coming shows =
    let shape = r.shape in
    let is = coming.shape in
    let empty : RingKeeps shape (λ a. 0) new_ring = new_ring_keeps shape is coming.unmoved (λ a. 0) (λ a. refl) in
    record {
      is_spot = empty.is_spot;
      room = empty.room;
      passed = empty.passed;
      passed_links = empty.passed_links;
      given_within = empty.given_within;
      given_declared = empty.given_declared;
      crossed_is_crossing = empty.crossed_is_crossing;
      crossed_within = empty.crossed_within;
      kept = λ p d h g free at. absurd (false≢true g);
      not_yet = λ p due g.
          let is_due = due_is shape (Data 0) p due in
          other_than_one (k.memory (address_of shape p + 12)) (cycle_of shape p) (shows (address_of shape p) (address_aligned shape is p) (inside_at shape (address_of shape p) (λ b low. address_inside shape is p b low)))
          (cycle_of-first shape coming.unmoved p (omega arith));
      kept_link = λ q i due g at. absurd (false≢true g);
      not_yet_link = λ q due g.
          let is_due = crossing_due_is shape (Data 0) q due in
          let found = crossed_link shape q is_due.crossing in
          let at = link_address_is shape q found.0 found.1 in
          let link = (crosses shape q found.0 found.1).link in
          other_than_one (k.memory (link_address shape q + 12)) (cycle_of shape (q - 1))
          (shows (link_address shape q) (omega (arith, at, link_aligned shape is found.0 link)) (inside_at shape (link_address shape q) (λ b low. link_address_inside shape is q b is_due.crossing low)))
          (cycle_of-first shape coming.unmoved (q - 1) (omega arith));
      free_given = empty.free_given;
      free_shows = λ p low high free. absurd (false≢true free);
      open_restored = empty.open_restored;
      whole = empty.whole;
      lengths = empty.lengths;
      descriptors = empty.descriptors;
      blocks = empty.blocks;
      held = empty.held;
    }
  where
    inside_at : (shape : Shape) (a : ℕ) → ((b : ℕ) → b < 16 → is_inside shape (a + b) ≡ true) → is_inside shape a ≡ true
    inside_at shape a all = ap (λ x. is_inside shape x) (sym (add-zero a)) ∙ all 0 (omega arith)

module _ (h : Header) (is : IsHeader h) (k : Known) (d : DriverKeeps h k) (r : Ring) (coming : IsComing r) (kind : r.shape.kind ≡ Xfer) (new : k.ring r.id ≡ new_ring) (good : is_bad_ring h k r ≡ false) where
  abbrev g : Header
  g = record h { rings = h.rings ++ r ∷ [] }

  pub parts : (is_some (ring_with h r.id) ≡ false) × (list_any (is_bad_segment h k) r.shape.segments ≡ false)
  unfolding is_bad_ring
  parts =
      let two = or_parts (is_some (ring_with h r.id) || is_bad_kind h k r.shape.kind) (list_any (is_bad_segment h k) r.shape.segments) good in
      ((or_parts (is_some (ring_with h r.id)) (is_bad_kind h k r.shape.kind) two.0).0, two.1)

  pub no_ring : ring_with h r.id ≡ None
  no_ring = elim (cases_option (ring_with h r.id)) [ inl none ↦ none | inr some ↦ absurd (false≢true (sym parts.0 ∙ ap (λ o. is_some o) some.1)) ]

  pub another : (s : ℕ) (q : Ring) → ring_with h s ≡ Some q → s ≢ r.id
  another s q found same = none-some q (sym no_ring ∙ ap (λ n. ring_with h n) (sym same) ∙ found)

  -- ---- other rings are found as before

  pub ring_same : (s : ℕ) → s ≢ r.id → ring_with g s ≡ ring_with h s
  ring_same s other = found_before (λ q. q.id == s) h.rings r (ne_eqb r.id s (λ same. other (sym same)))

  pub shape_same : (s : ℕ) → s ≢ r.id → shape_of g s ≡ shape_of h s
  unfolding shape_of
  shape_same s other = ap (λ o. shape_or Xfer o) (ring_same s other)

  shape_here : shape_of g r.id ≡ r.shape
  shape_here = shape_is g r.id r (found_new (λ q. q.id == r.id) h.rings r no_ring (eq-eqb r.id r.id refl))

  driver_before : (s : ℕ) → s ≢ r.id → IsDriverRing g s → IsDriverRing h s
  driver_before s other ring = record { ring = ring.ring; found = sym (ring_same s other) ∙ ring.found; kind = ring.kind }

  driver_still : (s : ℕ) → IsDriverRing h s → IsDriverRing g s
  driver_still s ring = record { ring = ring.ring; found = found_still (λ q. q.id == s) h.rings r ring.ring ring.found; kind = ring.kind }

  transfer_still : (s : ℕ) → IsTransferRing h s → IsAsBefore h (h.rings ++ r ∷ []) k k.ring s
  transfer_still s ring = search (rules, found_still, shape_same, another)

  pub event_ring_same : event_ring g ≡ event_ring h
  unfolding event_ring
  event_ring_same = found_before (λ q. is_event_kind q.shape.kind) h.rings r (ap (λ n. is_event_kind n) kind)

  pub command_same : command_id g ≡ command_id h
  unfolding command_id command_ring
  command_same = ap id_or_none (found_before (λ q. is_command_kind q.shape.kind) h.rings r (ap (λ n. is_command_kind n) kind))

  pub events_same : event_shape g ≡ event_shape h
  unfolding event_shape
  events_same = ap (λ o. shape_or Evt o) event_ring_same

  pub size_same : event_size g ≡ event_size h
  unfolding event_size
  size_same = ap place_count events_same

  pub no_command : command_id h ≢ r.id
  no_command same = search (rules, cases_option, command_named, another, command_with)

  -- ---- it lies apart from all that is under lease

  shape_apart : (from len : ℕ) → ((s : Segment) → IsIn s r.shape.segments → overlap s.base (16 * s.count) from len ≡ false) → touches_ring h from len ≡ false → touches_ring g from len ≡ false
  unfolding touches_ring
  shape_apart from len apart before = search (rules, list_any-append, touches, or_from, list_any, touches_none, parts)

  -- ---- what a binding names

  pub having_same : (p s : ℕ) → ring_having h p ≡ Some s → ring_having g p ≡ Some s
  unfolding ring_having
  having_same p s names = grind (arith, none-some, id_of, found_still, h.rings)

  bound_same : (b : Binding) → BindsAsBefore h (h.rings ++ r ∷ []) k k.ring b
  unfolding ring_bound
  bound_same b = λ s names. (having_same b.pointer s names, transfer_still s (transfer_ring h s (having_transfer h is b.pointer s names)))

  pub others : OtherRings h (h.rings ++ r ∷ []) k k.ring
  others = record {
    command = command_same;
    command_ring = driver_still (command_id h);
    command_shape = ap (λ n. shape_of g n) command_same ∙ shape_same (command_id h) no_command;
    command_view = ap k.ring command_same;
    events = events_same;
    version = refl;
    size = size_same;
    keeps = λ s ring. elim (cases_eq s r.id) [
      | inl here ↦ subst (λ n. RingKeeps (shape_of g n) k.memory (k.ring n)) (sym here)
          (subst (λ v. RingKeeps (shape_of g r.id) k.memory v) (sym new) (subst (λ x. RingKeeps x k.memory new_ring) (sym shape_here) (view_keeps k r coming (block_shows h k r.shape coming.shape parts.1))))
      | inr other ↦ subst (λ x. RingKeeps x k.memory (k.ring s)) (sym (shape_same s other)) (d.rings s (driver_before s other ring))
    ];
    clean = λ s a ring word inside. elim (cases_eq s r.id) [
      | inl here ↦ words_clean h k r.shape coming.shape parts.1 a word (ap (λ x. is_inside x a) (sym (ap (λ n. shape_of g n) here ∙ shape_here)) ∙ inside)
      | inr other ↦ d.clean s a (driver_before s other ring) word (ap (λ x. is_inside x a) (sym (shape_same s other)) ∙ inside)
    ];
    had = λ s i x at. transfer_still x (d.states.transfer s i x at);
    each = λ s. inl refl;
    devices = λ s e at.
        let device = d.devices s e at in
        let leases : (t : Segment) → IsIn t r.shape.segments → list_any (covers h t.base (16 * t.count)) (open_ranges h k) ≡ false = λ t in_it. (each_good h k r.shape coming.shape parts.1 t in_it).leases in (
          shape_apart e (device_context_bytes h.context_size) (λ t in_it. device_free h k t.base (16 * t.count) (leases t in_it) s e device.slot.0 device.slot.1 at) device.rings,
          shape_apart (entry_of k s) 8 (λ t in_it. entry_free h k t.base (16 * t.count) (leases t in_it) s e device.slot.0 device.slot.1 at) device.entry_rings,
        );
    contexts = λ p n c u at.
        shape_apart n (input_context_bytes h.context_size)
        (λ t in_it. context_free h k t.base (16 * t.count) (each_good h k r.shape coming.shape parts.1 t in_it).leases p n c u at)
        (context_lies h k d p n c u at).rings;
    binds = λ p c u i b low. bound_same (get_or (binds h k c) i b);
  }

  -- what a driver keeps, with the ring that comes
  pub new_ring_kept : DriverKeeps (with_ring h r) k
  unfolding with_ring
  new_ring_kept = other_rings_keep h (h.rings ++ r ∷ []) k k.ring d others

  -- ---- the header is one still

  pub new_ring_header : IsHeader (with_ring h r)
  unfolding with_ring touches_ring
  new_ring_header =
      let was = header_parts h is in
      let own : (nat_lt r.id 256 && is_shape r.shape) ≡ true = and_from (nat_lt r.id 256) (is_shape r.shape) (lt-ltb r.id 256 coming.low) coming.shape in
      let apart : (q : Ring) → IsIn q h.rings → clash q r ≡ false = λ q at.
      or_from _ (is_event_kind q.shape.kind && is_event_kind r.shape.kind)
      (or_from _ (is_command_kind q.shape.kind && is_command_kind r.shape.kind)
      (or_from (q.id == r.id) (rings_overlap q.shape r.shape) (none_found (λ x. x.id == r.id) h.rings no_ring q at)
      (overlaps_none q.shape r.shape (segment_some r.shape coming.shape) (λ t in_it. ring_untouched h t.base (16 * t.count) (each_good h k r.shape coming.shape parts.1 t in_it).rings q at)))
      (and_right (is_command_kind q.shape.kind) (is_command_kind r.shape.kind) (ap (λ n. is_command_kind n) kind)))
      (and_right (is_event_kind q.shape.kind) (is_event_kind r.shape.kind) (ap (λ n. is_event_kind n) kind)) in
      and_from (list_all (λ q. nat_lt q.id 256 && is_shape q.shape) (h.rings ++ r ∷ [])) (may_stand_together (h.rings ++ r ∷ []))
      (all_more (λ q. nat_lt q.id 256 && is_shape q.shape) h.rings r was.0 own) (together_more h.rings r was.1 apart)

  -- ---- a world in which nothing happened on it

  module _ (w : World) (empty : w.events r.id ≡ []) where
    free_still : (s : ℕ) → FreeRing (shape_of h s) k.ring_of (k.ring s) (state_of w s) s → FreeRing (shape_of g s) k.ring_of (k.ring s) (state_of w s) s
    free_still s free = elim (cases_eq s r.id) [
      | inl here ↦ free_new (shape_of g s) k.ring_of (k.ring s) (state_of w s) s free.none free.rests.inactive (ap w.events here ∙ empty) (ap k.ring here ∙ new)
      | inr other ↦ subst (λ shape. FreeRing shape k.ring_of (k.ring s) (state_of w s) s) (sym (shape_same s other)) free
    ]

    pub new_ring_agrees : (unread : List Block) → Agrees h k unread w → Agrees (with_ring h r) k unread w
    unfolding with_ring
    new_ring_agrees unread a =
        other_worlds_agree h (h.rings ++ r ∷ []) k k.ring w w.queue w.lengths w.events w.reported d others
        (record { queues = a.stands.queues; counts = a.stands.lengths; command = (refl, refl); had = λ s i x at. (refl, refl); free = λ s other free. free_still s free }) unread a
