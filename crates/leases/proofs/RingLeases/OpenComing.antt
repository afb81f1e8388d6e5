-- What is open behind a ring that comes: the segments of an event ring, and of another ring nothing more
use Rattle.leases.proofs.UpperLaws.{arith, not, ◌≡◌, ◌≢◌, ◌*◌, ◌==◌, ◌||◌, ◌++◌, ◌∷◌, ◌∙◌, ℕ, Bool, true, false, List, [], None, Option, map, filter, refl, sym, ap, subst, inl, inr, eqb-false, filter-append, cases_Bool, cases_option, flat_map, append-nil, Header, IsHeader, Ring, RingKind, Known, Evt, Erstba, Segment, DriverKeeps, IsIn, driver_rings, command_id, event_shape, shape_of, ring_with, open_leases, open_on, open_ranges, context_ranges, device_ranges, entry_ranges, segment_ranges, table_range, new_ring, Leased, Range, EventSegment, is_among, among_is, in_among, newly_open, in_turn, IsComing, forgotten, is_bad_ring, with_ring, none_found, cleared_apart, TablesFit, is_input_context, is_of_slot, Lent, AreOpen, passed_on, with_begun, segments_in_turn, is_some, false≢true, or_parts, cond-false, ◌<◌, Shape, command_place, Cmd, Xfer, Erstsz, false_from_ne_true, event_ring, command_ring, is_event_kind, is_command_kind, is_bad_kind, is_bad_segment, is_in_run, list_any, cond-true, eq-eqb, ne_eqb, shape_or, id_or_none, event_size, place_count, place_of, no_id, either_into, five_into, in_left, in_right, none_over, none_new, nothing_passed, passed_by, AllAre, all_both, contexts_are, contexts_same, devices_are, devices_same, entries_are, entries_same, is_segment, no_contexts, rings_no_range, segments_are, segments_same, table_same, all_same, driver, filter_all, one_more, found_in, found_before, found_new, IsRange}

module _ (h : Header) (is : IsHeader h) (k : Known) (d : DriverKeeps h k) (tables : TablesFit k) (r : Ring) (coming : IsComing r) (good : is_bad_ring h k r ≡ false) where
  abbrev g : Header
  g = with_ring h r

  abbrev f : Known
  f = forgotten k r.id

  -- ---- what the rules say

  none_of : {X : Type 0} (o : Option X) → is_some o ≡ false → o ≡ None
  none_of o none = elim (cases_option o) [ inl is ↦ is | inr some ↦ absurd (false≢true (sym none ∙ ap (λ x. is_some x) some.1)) ]

  record Parts : Type 0 where
    pub unnamed : ring_with h r.id ≡ None
    pub kind : is_bad_kind h k r.shape.kind ≡ false

  parts : Parts
  unfolding is_bad_ring
  parts =
      let two = or_parts (is_some (ring_with h r.id) || is_bad_kind h k r.shape.kind) (list_any (is_bad_segment h k) r.shape.segments) good in
      let one = or_parts (is_some (ring_with h r.id)) (is_bad_kind h k r.shape.kind) two.0 in
      record { unnamed = none_of (ring_with h r.id) one.0; kind = one.1 }

  no_command : r.shape.kind ≡ Cmd → command_ring h ≡ None
  unfolding is_bad_kind
  no_command kind = none_of (command_ring h) (or_parts (is_some (command_ring h)) (is_in_run k) (sym (ap (is_bad_kind h k) kind) ∙ parts.kind)).0

  no_event : r.shape.kind ≡ Evt → event_ring h ≡ None
  unfolding is_bad_kind
  no_event kind = none_of (event_ring h) (or_parts (is_some (event_ring h)) k.started (sym (ap (is_bad_kind h k) kind) ∙ parts.kind)).0

  -- ---- other rings are as before

  pub other_id : (q : Ring) → IsIn q h.rings → q.id ≢ r.id
  other_id q at = eqb-false q.id r.id (none_found (λ x. x.id == r.id) h.rings parts.unnamed q at)

  pub shape_other : (s : ℕ) → s ≢ r.id → shape_of g s ≡ shape_of h s
  unfolding shape_of with_ring
  shape_other s other = ap (λ o. shape_or Xfer o) (found_before (λ q. q.id == s) h.rings r (ne_eqb r.id s (λ same. other (sym same))))

  view_other : (s : ℕ) → s ≢ r.id → f.ring s ≡ k.ring s
  unfolding forgotten
  view_other s other = cleared_apart r.id k.ring s other

  view_here : f.ring r.id ≡ new_ring
  unfolding forgotten
  view_here = cond-true (r.id == r.id) new_ring (k.ring r.id) (eq-eqb r.id r.id refl)

  events_same : is_event_kind r.shape.kind ≡ false → event_shape g ≡ event_shape h
  unfolding event_shape event_ring with_ring
  events_same other = ap (λ o. shape_or Evt o) (found_before (λ q. is_event_kind q.shape.kind) h.rings r other)

  commands_same : is_command_kind r.shape.kind ≡ false → command_id g ≡ command_id h
  unfolding command_id command_ring with_ring
  commands_same other = ap id_or_none (found_before (λ q. is_command_kind q.shape.kind) h.rings r other)

  command_other : command_id h ≢ r.id
  unfolding command_id command_ring
  command_other same = elim (cases_option (command_ring h)) [
    | inl none ↦ omega (arith, sym same ∙ ap id_or_none none, coming.low)
    | inr some ↦ other_id some.0 (found_in (λ q. is_command_kind q.shape.kind) h.rings some.0 some.1).0 (sym (ap id_or_none some.1) ∙ same)
  ]

  -- ---- the parts that are open

  abbrev rings_before : List Leased
  rings_before = flat_map (open_on h k) (driver_rings h)

  same_views : (q : Ring) → IsIn q h.rings → f.ring q.id ≡ k.ring q.id
  same_views q at = view_other q.id (other_id q at)

  rings_part : flat_map (open_on g f) (driver_rings g) ≡ rings_before
  unfolding driver_rings with_ring
  rings_part = elim (cases_Bool (driver r)) [
    | inl drives ↦ one_more h g k f h.rings r same_views view_here drives
    | inr carries ↦
        ap (flat_map (open_on g f)) (filter-append driver h.rings (r ∷ []) ∙ ap (λ rs. filter driver h.rings ++ rs) (cond-false (driver r) (r ∷ []) [] carries) ∙ append-nil (filter driver h.rings))
        ∙ all_same h g k f h.rings same_views
  ]

  entries_part : entry_ranges f ≡ entry_ranges k
  unfolding forgotten
  entries_part = entries_same h g k f refl refl

  devices_part : device_ranges g f ≡ device_ranges h k
  unfolding forgotten with_ring
  devices_part = devices_same h g k f refl refl

  contexts_kept : is_command_kind r.shape.kind ≡ false → context_ranges g f ≡ context_ranges h k
  unfolding with_ring
  contexts_kept other =
      let same = commands_same other in
      contexts_same h g k f refl same (ap (shape_of g) same ∙ shape_other (command_id h) command_other) (ap f.ring same ∙ view_other (command_id h) command_other)

  pub places_same : is_command_kind r.shape.kind ≡ false → (p : ℕ) → command_place g p ≡ command_place h p
  places_same other p = let same = commands_same other in ap (λ s. place_of s p) (ap (shape_of g) same ∙ shape_other (command_id h) command_other)

  pub segments_kept : is_event_kind r.shape.kind ≡ false → segment_ranges g ≡ segment_ranges h
  segments_kept other = segments_same h g k f (events_same other)

  command_now : r.shape.kind ≡ Cmd → command_id g ≡ r.id
  unfolding command_id command_ring with_ring
  command_now kind = ap id_or_none (found_new (λ q. is_command_kind q.shape.kind) h.rings r (no_command kind) (ap is_command_kind kind))

  -- neither before nor behind the command ring that comes a context is lent
  pub none_before : r.shape.kind ≡ Cmd → context_ranges h k ≡ []
  unfolding command_id
  none_before kind = no_contexts h k (λ p. ap (λ (n : ℕ). (k.ring n).given p) (ap id_or_none (no_command kind)) ∙ (d.nobody no_id refl).given p)

  none_behind : r.shape.kind ≡ Cmd → context_ranges g f ≡ []
  none_behind kind = no_contexts g f (λ p. ap (λ (n : ℕ). (f.ring n).given p) (command_now kind) ∙ ap (λ v. v.given p) view_here)

  contexts_of : (kind : RingKind) → r.shape.kind ≡ kind → context_ranges g f ≡ context_ranges h k
  contexts_of Cmd kind = none_behind kind ∙ sym (none_before kind)
  contexts_of Evt kind = contexts_kept (ap is_command_kind kind)
  contexts_of Xfer kind = contexts_kept (ap is_command_kind kind)

  pub contexts_part : context_ranges g f ≡ context_ranges h k
  contexts_part = contexts_of r.shape.kind refl

  abbrev slots_part : List Leased
  slots_part = entry_ranges k ++ device_ranges h k

  registers_same : f.register ≡ k.register
  unfolding forgotten
  registers_same = refl

  -- a ring but an event ring changes nothing
  pub comes_open : is_event_kind r.shape.kind ≡ false → open_leases g f ≡ open_leases h k
  unfolding open_leases open_ranges
  comes_open other =
      let events = events_same other in
      let table : table_range g (f.register Erstba) ≡ table_range h (k.register Erstba) = ap (λ x. table_range g (x Erstba)) registers_same ∙ table_same h g k f (k.register Erstba) events in
      λ j. rings_part j ++ (segments_same h g k f events j ++ table j ++ contexts_part j ++ entries_part j ++ devices_part j)

  -- ---- an event ring

  module _ (kind : r.shape.kind ≡ Evt) where
    -- without one there is no segment table
    no_room : event_size h ≡ 0
    unfolding event_size event_shape
    no_room = ap (λ o. place_count (shape_or Evt o)) (no_event kind)

    pub unwritten : k.register Erstba ≡ None
    unwritten = tables.sized (none_of (k.register Erstsz) (false_from_ne_true (is_some (k.register Erstsz)) (λ written. let some : 0 < event_size h = d.sized written in omega (arith, some, no_room))))

    pub no_segments : segment_ranges h ≡ []
    unfolding segment_ranges event_shape
    no_segments = ap (λ o. map (λ (s : Segment). Range (16 * s.count) s.base EventSegment) (shape_or Evt o).segments) (no_event kind)

    pub shape_now : event_shape g ≡ r.shape
    unfolding event_shape event_ring with_ring
    shape_now = ap (λ o. shape_or Evt o) (found_new (λ q. is_event_kind q.shape.kind) h.rings r (no_event kind) (ap is_event_kind kind))

    pub segments_now : in_turn (segment_ranges g) ≡ segments_in_turn r.shape.segments
    unfolding segment_ranges
    segments_now = ap (λ (s : Shape). segments_in_turn s.segments) shape_now

    no_table : (e : Header) (x : Known) → x.register Erstba ≡ None → table_range e (x.register Erstba) ≡ []
    unfolding table_range
    no_table e x none = ap (table_range e) none

    -- what was open, and what is
    before_is : open_leases h k ≡ rings_before ++ ([] ++ [] ++ context_ranges h k ++ entry_ranges k ++ device_ranges h k)
    unfolding open_leases open_ranges
    before_is = λ j. rings_before ++ (no_segments j ++ no_table h k unwritten j ++ context_ranges h k ++ entry_ranges k ++ device_ranges h k)

    behind_is : open_leases g f ≡ rings_before ++ (segment_ranges g ++ [] ++ context_ranges h k ++ entry_ranges k ++ device_ranges h k)
    unfolding open_leases open_ranges
    behind_is = λ j. rings_part j ++ (segment_ranges g ++ no_table g f (ap (λ x. x Erstba) registers_same ∙ unwritten) j ++ contexts_part j ++ entries_part j ++ devices_part j)

    abbrev other_range : Leased → Bool
    other_range l = not (is_segment l)

    -- no segment was lent
    not_segment : AllAre other_range (open_leases h k)
    not_segment l at =
        all_both other_range rings_before ([] ++ [] ++ context_ranges h k ++ entry_ranges k ++ device_ranges h k) (λ m there. no_range m (rings_no_range h k (driver_rings h) m there))
        (all_both other_range ([] ++ [] ++ context_ranges h k ++ entry_ranges k) (device_ranges h k)
        (all_both other_range ([] ++ [] ++ context_ranges h k) (entry_ranges k) (λ m there. of_context m (contexts_are h k m there)) (λ m there. of_slot m (entries_are k m there)))
        (λ m there. of_slot m (devices_are h k m there)))
        l (subst (IsIn l) before_is at)
      where
        no_range : (m : Leased) → (IsRange m → ⊥) → other_range m ≡ true
        no_range m none = grind arith

        of_context : (m : Leased) → is_input_context m ≡ true → other_range m ≡ true
        of_context m is = grind arith

        of_slot : (m : Leased) → is_of_slot m ≡ true → other_range m ≡ true
        of_slot m is = grind arith

    is_new : (l : Leased) → IsIn l (segment_ranges g) → not (is_among (open_leases h k) l) ≡ true
    is_new l at = elim (cases_Bool (is_among (open_leases h k) l)) [
      | inl among ↦ absurd (false≢true (ap not (sym (segments_are g l at)) ∙ not_segment l (among_is (open_leases h k) l among)))
      | inr apart ↦ ap not apart
    ]

    abbrev fresh : Leased → Bool
    fresh l = not (is_among (open_leases h k) l)

    old : (ls : List Leased) → ((l : Leased) → IsIn l ls → IsIn l (rings_before ++ ([] ++ [] ++ context_ranges h k ++ entry_ranges k ++ device_ranges h k))) → filter fresh ls ≡ []
    old ls there = none_new (open_leases h k) ls (λ l at. in_among (open_leases h k) l (subst (IsIn l) (sym before_is) (there l at)))

    -- the segments are
    pub newly_are : newly_open (open_leases h k) (open_leases g f) ≡ segment_ranges g
    newly_are =
        let rest = [] ++ [] ++ context_ranges h k ++ entry_ranges k ++ device_ranges h k in
        ap (filter fresh) behind_is
        ∙ rw (
          filter-append fresh rings_before,
          filter-append fresh (segment_ranges g ++ [] ++ context_ranges h k ++ entry_ranges k),
          filter-append fresh (segment_ranges g ++ [] ++ context_ranges h k),
          filter-append fresh (segment_ranges g ++ []),
          filter-append fresh (segment_ranges g),
          old rings_before (λ l at. in_left l rings_before rest at),
          filter_all fresh (segment_ranges g) is_new,
          old (context_ranges h k) (λ l at. in_right l rings_before rest (in_left l (context_ranges h k ++ entry_ranges k) (device_ranges h k) (in_left l (context_ranges h k) (entry_ranges k) at))),
          old (entry_ranges k) (λ l at. in_right l rings_before rest (in_left l (context_ranges h k ++ entry_ranges k) (device_ranges h k) (in_right l (context_ranges h k) (entry_ranges k) at))),
          old (device_ranges h k) (λ l at. in_right l rings_before rest (in_right l (context_ranges h k ++ entry_ranges k) (device_ranges h k) at)),
        ) (append-nil _ ∙ append-nil _ ∙ append-nil _ ∙ append-nil (segment_ranges g))

    -- and all else stays
    still_open : (l : Leased) → is_among (open_leases h k) l ≡ true → is_among (open_leases g f) l ≡ true
    still_open l among = in_among (open_leases g f) l (subst (IsIn l) (sym behind_is)
        (either_into (IsIn l) (in_left l) (in_right l) l rings_before ([] ++ [] ++ context_ranges h k ++ entry_ranges k ++ device_ranges h k) rings_before
        (segment_ranges g ++ [] ++ context_ranges h k ++ entry_ranges k ++ device_ranges h k) (λ here. here)
        (five_into (IsIn l) (in_left l) (in_right l) l [] [] (context_ranges h k) (entry_ranges k) (device_ranges h k) (segment_ranges g) [] (context_ranges h k) (entry_ranges k) (device_ranges h k)
        (λ none. absurd none) (λ none. absurd none) (λ here. here) (λ here. here) (λ here. here))
        (subst (IsIn l) before_is (among_is (open_leases h k) l among))))

  -- ---- what is lent behind it

  module _ (n : ℕ) (ts : List Lent) (opened : AreOpen h k ts) where
    pub comes_same : is_event_kind r.shape.kind ≡ false → passed_on (open_leases h k) (open_leases g f) n ts ≡ ts
    comes_same other = nothing_passed (open_leases h k) (open_leases g f) n ts opened (λ l. ap (λ ls. is_among ls l) (comes_open other))

    pub comes_segments : r.shape.kind ≡ Evt → passed_on (open_leases h k) (open_leases g f) n ts ≡ with_begun n ts (in_turn (segment_ranges g))
    comes_segments kind =
        passed_by (open_leases h k) (open_leases g f) n ts opened (λ l. false) (in_turn (segment_ranges g)) (still_open kind) (ap in_turn (newly_are kind))
        ∙ ap (λ us. with_begun n us (in_turn (segment_ranges g))) (none_over (λ l. false) n ts (λ l. refl))
