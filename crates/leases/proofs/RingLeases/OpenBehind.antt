-- What is open behind a ring that goes, and behind one that comes
use Rattle.leases.proofs.UpperLaws.{arith, not, and_false, ◌≡◌, ◌≢◌, ◌&&◌, ◌||◌, ◌++◌, ◌∷◌, ◌∙◌, ℕ, Bool, true, false, List, [], Some, None, filter, refl, sym, ap, inl, inr, eqb-false, filter-append, cases_Bool, flat_map, Header, IsHeader, Ring, RingKind, RingView, Known, Evt, Erstba, DriverKeeps, IsTransferRing, driver_rings, is_transfer_kind, command_id, event_shape, shape_of, ring_with, open_leases, open_on, open_ranges, context_ranges, device_ranges, entry_ranges, segment_ranges, table_range, Leased, is_among, same_leased, is_input_context, is_of_slot, forgotten, is_bad_free, without_ring, cleared_apart, is_of_ring, TablesFit, Cmd, Xfer, event_ring, is_event_kind, is_command_kind, shape_or, gone, no_id, ◌*◌, map, command_place, false≢true, place_of, or_false, Segment, Range, EventSegment, contexts_are, contexts_same, devices_are, devices_same, entries_are, entries_same, filter_alike_in, filter_out, is_segment, is_table, no_contexts, rings_no_range, segments_are, segments_same, table_same, tables_are, filter_all, one_less, others, IsRange}
use Rattle.safety.proofs.RingChanges.CommandRings as commands
use Rattle.safety.proofs.RingChanges.EventRings as events
use Rattle.safety.proofs.RingChanges.GoneRings as goers
use Rattle.safety.proofs.RingChanges.LeftOut as left

-- the ranges that go with a ring of this kind
abbrev pub goes_with : RingKind → Leased → Bool
goes_with Cmd l = is_input_context l
goes_with Evt l = is_segment l
goes_with Xfer l = false

-- ---- parts that stay, and parts that go

module _ (kind : RingKind) (id : ℕ) where
  -- what goes with the ring: its blocks and Links, and ranges by its kind
  abbrev pub is_over : Leased → Bool
  is_over l = goes_with kind l || is_of_ring id l

  abbrev pub remains : Leased → Bool
  remains l = not (is_over l)

  slot_remains : (l : Leased) → is_of_slot l ≡ true → remains l ≡ true
  slot_remains l is = grind arith

  table_remains : (l : Leased) → is_table l ≡ true → remains l ≡ true
  table_remains l is = grind arith

  rings_remain : (l : Leased) → (IsRange l → ⊥) → others id l ≡ remains l
  rings_remain l none = grind (arith, or_false)

  segment_remains : (l : Leased) → is_segment l ≡ true → remains l ≡ not (is_event_kind kind)
  segment_remains l is = grind arith

  context_remains : (l : Leased) → is_input_context l ≡ true → remains l ≡ not (is_command_kind kind)
  context_remains l is = grind arith

  -- behind the ring that goes
  record PartsBehind (h g : Header) (k l : Known) : Type 0 where
    pub segments : filter remains (segment_ranges h) ≡ segment_ranges g
    pub table : filter remains (table_range h (k.register Erstba)) ≡ table_range g (l.register Erstba)
    pub contexts : filter remains (context_ranges h k) ≡ context_ranges g l

  module _ (h : Header) (k : Known) where
    abbrev g : Header
    g = without_ring h id

    abbrev l : Known
    l = gone h k id

    rings_part : flat_map (open_on g l) (driver_rings g) ≡ filter remains (flat_map (open_on h k) (driver_rings h))
    unfolding driver_rings without_ring gone forgotten
    rings_part =
        one_less id h g k l h.rings (λ s apart. cleared_apart id k.ring s (eqb-false s id apart))
        ∙ filter_alike_in (others id) remains (flat_map (open_on h k) (driver_rings h)) (λ m at. rings_remain m (rings_no_range h k (driver_rings h) m at))

    entries_part : filter remains (entry_ranges k) ≡ entry_ranges l
    unfolding gone forgotten
    entries_part = filter_all remains (entry_ranges k) (λ m at. slot_remains m (entries_are k m at)) ∙ sym (entries_same h g k l refl refl)

    devices_part : filter remains (device_ranges h k) ≡ device_ranges g l
    unfolding gone forgotten without_ring
    devices_part = filter_all remains (device_ranges h k) (λ m at. slot_remains m (devices_are h k m at)) ∙ sym (devices_same h g k l refl refl)

    parts_open : PartsBehind h g k l → open_leases g l ≡ filter remains (open_leases h k)
    unfolding open_leases open_ranges
    parts_open parts = rw (
      filter-append remains (flat_map (open_on h k) (driver_rings h)),
      filter-append remains (segment_ranges h ++ table_range h (k.register Erstba) ++ context_ranges h k ++ entry_ranges k),
      filter-append remains (segment_ranges h ++ table_range h (k.register Erstba) ++ context_ranges h k),
      filter-append remains (segment_ranges h ++ table_range h (k.register Erstba)),
      filter-append remains (segment_ranges h),
      parts.segments,
      parts.table,
      parts.contexts,
      entries_part,
      devices_part,
      ← rings_part,
    ) refl

    -- the event ring stays
    segments_remain : is_event_kind kind ≡ false → event_shape g ≡ event_shape h → filter remains (segment_ranges h) ≡ segment_ranges g
    segments_remain other events = filter_all remains (segment_ranges h) (λ m at. segment_remains m (segments_are h m at) ∙ ap not other) ∙ sym (segments_same h g k l events)

    table_remain : event_shape g ≡ event_shape h → filter remains (table_range h (k.register Erstba)) ≡ table_range g (l.register Erstba)
    unfolding gone forgotten
    table_remain events = filter_all remains (table_range h (k.register Erstba)) (λ m at. table_remains m (tables_are h (k.register Erstba) m at)) ∙ sym (table_same h g k l (k.register Erstba) events)

    -- the command ring stays
    contexts_remain : is_command_kind kind ≡ false → command_id g ≡ command_id h → shape_of g (command_id g) ≡ shape_of h (command_id h) → l.ring (command_id g) ≡ k.ring (command_id h) →
        filter remains (context_ranges h k) ≡ context_ranges g l
    unfolding gone forgotten without_ring
    contexts_remain other same shape view =
        filter_all remains (context_ranges h k) (λ m at. context_remains m (contexts_are h k m at) ∙ ap not other) ∙ sym (contexts_same h g k l refl same shape view)

-- ---- by the kind of the ring

module _ (h : Header) (is : IsHeader h) (k : Known) (d : DriverKeeps h k) (tables : TablesFit k) (id : ℕ) (q : Ring) (found : ring_with h id ≡ Some q) (good : is_bad_free h k id ≡ false) where
  abbrev after : Header
  after = without_ring h id

  abbrev later : Known
  later = gone h k id

  view_other : (s : ℕ) → s ≢ id → later.ring s ≡ k.ring s
  unfolding gone forgotten
  view_other s other = cleared_apart id k.ring s other

  pub shape_other : (s : ℕ) → s ≢ id → shape_of after s ≡ shape_of h s
  unfolding shape_of
  shape_other s other = ap (λ o. shape_or Xfer o) (left.ring_same h is id q found s other)

  -- the command ring is another one
  record CommandsStay : Type 0 where
    pub same : command_id after ≡ command_id h
    pub apart : command_id h ≢ id

  commands_stay : (kind : RingKind) → q.shape.kind ≡ kind → is_command_kind kind ≡ false → CommandsStay
  unfolding without_ring
  commands_stay Cmd kind other = absurd (false≢true (sym other))
  commands_stay Evt kind other = let another = events.left_another h is k d id q found kind good in record { same = another.command; apart = another.command_other }
  commands_stay Xfer kind other =
      let ring : IsTransferRing h id = record { ring = q; found = found; kind = ap is_transfer_kind kind } in
      record { same = goers.command_same h is k d id ring good; apart = goers.no_command h is k d id ring good }

  command_shape : CommandsStay → shape_of after (command_id after) ≡ shape_of h (command_id h)
  command_shape stay = ap (shape_of after) stay.same ∙ shape_other (command_id h) stay.apart

  contexts_stay : (kind : RingKind) → q.shape.kind ≡ kind → is_command_kind kind ≡ false → filter (remains kind id) (context_ranges h k) ≡ context_ranges after later
  contexts_stay kind same other =
      let stay = commands_stay kind same other in
      contexts_remain kind id h k other stay.same (command_shape stay) (ap later.ring stay.same ∙ view_other (command_id h) stay.apart)

  -- and the event ring
  events_stay : (kind : RingKind) → q.shape.kind ≡ kind → is_event_kind kind ≡ false → event_shape after ≡ event_shape h
  unfolding without_ring
  events_stay Cmd kind other = commands.events_same h is k d id q found kind good
  events_stay Evt kind other = absurd (false≢true (sym other))
  events_stay Xfer kind other =
      let ring : IsTransferRing h id = record { ring = q; found = found; kind = ap is_transfer_kind kind } in
      goers.events_same h is k d id ring good

  pub places_stay : is_command_kind q.shape.kind ≡ false → (p : ℕ) → command_place after p ≡ command_place h p
  places_stay other p = ap (λ s. place_of s p) (command_shape (commands_stay q.shape.kind refl other))

  pub segments_stay : is_event_kind q.shape.kind ≡ false → segment_ranges after ≡ segment_ranges h
  segments_stay other = segments_same h after k later (events_stay q.shape.kind refl other)

  transfer_parts : q.shape.kind ≡ Xfer → PartsBehind Xfer id h after k later
  transfer_parts kind =
      let events = events_stay Xfer kind refl in
      record { segments = segments_remain Xfer id h k refl events; table = table_remain Xfer id h k events; contexts = contexts_stay Xfer kind refl }

  command_parts : q.shape.kind ≡ Cmd → PartsBehind Cmd id h after k later
  unfolding without_ring
  command_parts kind =
      let events = events_stay Cmd kind refl in
      let now : command_id after ≡ no_id = commands.command_now h is k d id q found kind good in
      let nobody = d.nobody no_id refl in
      record {
        segments = segments_remain Cmd id h k refl events;
        table = table_remain Cmd id h k events;
        contexts =
            filter_out (remains Cmd id) (context_ranges h k) (λ m at. context_remains Cmd id m (contexts_are h k m at))
            ∙ sym (no_contexts after later (λ p. ap (λ n. (later.ring n).given p) now ∙ ap (λ (v : RingView). v.given p) (view_other no_id (λ same. commands.some_id h is k d id q found kind good (sym same))) ∙ nobody.given p));
      }

  no_segments : (f : Header) → event_ring f ≡ None → segment_ranges f ≡ []
  unfolding segment_ranges event_shape
  no_segments f none = ap (λ o. map (λ (s : Segment). Range (16 * s.count) s.base EventSegment) (shape_or Evt o).segments) none

  no_table : (f : Header) (j : Known) → j.register Erstba ≡ None → filter (remains Evt id) (table_range f (j.register Erstba)) ≡ []
  unfolding table_range
  no_table f j none = ap (λ v. filter (remains Evt id) (table_range f v)) none

  no_table_behind : (f : Header) → k.register Erstba ≡ None → table_range f (later.register Erstba) ≡ []
  unfolding table_range gone forgotten
  no_table_behind f none = ap (λ v. table_range f v) none

  event_parts : q.shape.kind ≡ Evt → PartsBehind Evt id h after k later
  unfolding without_ring
  event_parts kind =
      let unwritten : k.register Erstba ≡ None = tables.sized (events.unused h is k d id q found kind good).1 in
      record {
        segments = filter_out (remains Evt id) (segment_ranges h) (λ m at. segment_remains Evt id m (segments_are h m at)) ∙ sym (no_segments after (left.no_event_still h is id q found (ap is_event_kind kind)));
        table = no_table h k unwritten ∙ sym (no_table_behind after unwritten);
        contexts = contexts_stay Evt kind refl;
      }

  parts_of : (kind : RingKind) → q.shape.kind ≡ kind → PartsBehind kind id h after k later
  parts_of Cmd same = command_parts same
  parts_of Evt same = event_parts same
  parts_of Xfer same = transfer_parts same

  -- of a ring that goes, and of what goes with it, no lease is open any more, and of all else each that was
  pub goes_open : open_leases after later ≡ filter (remains q.shape.kind id) (open_leases h k)
  goes_open = parts_open q.shape.kind id h k (parts_of q.shape.kind refl)

-- ---- what is among those that pass a test

pub among_filtered : (p : Leased → Bool) (xs : List Leased) (l : Leased) → is_among (filter p xs) l ≡ (is_among xs l && p l)
unfolding is_among
among_filtered p [] l = refl
among_filtered p (x ∷ xs) l =
    let rest = among_filtered p xs l in
    elim (cases_Bool (p x)) [
      | inl kept ↦ rw kept (ap (λ b. same_leased l x || b) rest ∙ (grind arith))
      | inr out ↦ rw out (rest ∙ (grind (arith, and_false)))
    ]
