-- A command comes to its end: the range of its input context is let go, and with a slot that is disabled those of its entry and device context
use Rattle.leases.proofs.LowerLaws.{not-true, false_unless, ◌≡◌, ◌≢◌, ◌+◌, ◌&&◌, ◌∷◌, ◌*◌, ◌⊎◌, ℕ, true, false, not, List, [], filter, Option, Some, arith, sym, ap, refl, inl, inr, subst, eqb-true, eq-eqb, range_with_len, false≢true, and_parts, and_from, Segment, place_count, due_positions, floor_number, Command, named_context, device_context_bytes, Header, Erstba, command_id, event_shape, shape_of, Known, entry_of, Leased, Block, Link, Range, Use, EventSegment, SegmentTable, InputContext, SlotEntry, DeviceContext, context_ranges, device_ranges, entry_ranges, is_among, open_ranges, range_of_command, range_of_context, range_of_device, range_of_entry, segment_ranges, slots, table_range, IsIn, among_is, both_ways, from_filter, in_among, in_filter, devices_without, let_go, slot_ranges, rules, five_into, from_flat_map, from_map, from_range, in_either, in_flat_map, in_left, in_range, in_right, IsWithinLap, IsRange, command_same}
use Rattle.ring_knowledge.specs.Rings as rings

-- ---- what a range is for

abbrev pub HasUse : Use → Leased → Type 0
HasUse u (Block r p) = ⊥
HasUse u (Link r q) = ⊥
HasUse u (Range n a e) = e ≡ u

one_use : (l : Leased) (u v : Use) → HasUse u l → HasUse v l → u ≡ v
one_use l u v x y = grind arith

pub only : (m l : Leased) (u : Use) → HasUse u m → IsIn l (m ∷ []) → HasUse u l
only m l u has at = elim at [ inl here ↦ subst (HasUse u) (sym here) has | inr nowhere ↦ absurd nowhere ]

module _ (h : Header) where
  use_of_segment : (l : Leased) → IsIn l (segment_ranges h) → HasUse EventSegment l
  unfolding segment_ranges
  use_of_segment l at = let found = from_map (λ (s : Segment). Range (16 * s.count) s.base EventSegment) (event_shape h).segments l at in subst (HasUse EventSegment) (sym found.2) refl

  use_of_table : (v : Option ℕ) (l : Leased) → IsIn l (table_range h v) → HasUse SegmentTable l
  unfolding table_range
  use_of_table v l at = grind (arith, only, SegmentTable)

  pub use_of_command : (p : ℕ) (c : Option Command) (l : Leased) → IsIn l (range_of_command h p c) → HasUse (InputContext p) l
  unfolding range_of_command range_of_context
  use_of_command p c l at = grind (arith, only, InputContext, named_context)

  abbrev entry_range : Known → ℕ → Leased
  entry_range k s = Range 8 (entry_of k s) (SlotEntry s)

  abbrev device_range : ℕ → ℕ → Leased
  device_range s d = Range (device_context_bytes h.context_size) d (DeviceContext s)

  in_entry : (k : Known) (s : ℕ) (o : Option ℕ) (l : Leased) → IsIn l (range_of_entry k s o) → (d : ℕ) × (o ≡ Some d) × (l ≡ entry_range k s)
  unfolding range_of_entry
  in_entry k s o l at = grind arith

  entry_in : (k : Known) (s : ℕ) (o : Option ℕ) (d : ℕ) → o ≡ Some d → IsIn (entry_range k s) (range_of_entry k s o)
  unfolding range_of_entry
  entry_in k s o d e = grind arith

  in_device : (s : ℕ) (o : Option ℕ) (l : Leased) → IsIn l (range_of_device h s o) → (d : ℕ) × (o ≡ Some d) × (l ≡ device_range s d)
  unfolding range_of_device
  in_device s o l at = grind arith

  device_in : (s : ℕ) (o : Option ℕ) (d : ℕ) → o ≡ Some d → IsIn (device_range s d) (range_of_device h s o)
  unfolding range_of_device
  device_in s o d e = grind arith

  -- what the ranges of a slot are for
  use_of_slot : (k : Known) (o : Option ℕ) (l : Leased) → IsIn l (slot_ranges h k o) → (s : ℕ) × (o ≡ Some s) × (HasUse (SlotEntry s) l ⊎ HasUse (DeviceContext s) l)
  unfolding range_of_entry range_of_device
  use_of_slot k o l there = grind (arith, in_either)

  pub slot_apart : (k : Known) (left : Option ℕ) (p : ℕ) (c : Option Command) (l : Leased) → IsIn l (slot_ranges h k left) → is_among (range_of_command h p c) l ≡ false
  slot_apart k left p c l at = grind (arith, false_unless (is_among (range_of_command h p c) l), among_is (range_of_command h p c) l, use_of_command p c l, use_of_slot k left l at, one_use l)

  -- ranges alone are let go
  pub gone_are_ranges : (k : Known) (left : Option ℕ) (l : Leased) → is_among (let_go h k left) l ≡ true → IsRange l
  gone_are_ranges k left l among = grind (arith, among_is (let_go h k left) l among, in_either l (range_of_command h (rings.next_command h k) (rings.command_at h k (rings.next_command h k))) (slot_ranges h k left), use_of_command, use_of_slot k left l)

-- ---- the law

module _ (h : Header) (k k' : Known) (left : Option ℕ) where
  abbrev next : ℕ
  next = rings.next_command h k

  abbrev count : ℕ
  count = place_count (shape_of h (command_id h))

  -- the command ring goes on by the command that is finished next, and a device context may be left
  pub record Finishes : Type 0 where
    pub given : (k'.ring (command_id h)).given ≡ (k.ring (command_id h)).given
    pub queue : (k'.ring (command_id h)).queue ≡ (k.ring (command_id h)).queue
    pub floor : floor_number (k'.ring (command_id h)) ≡ floor_number (k.ring (command_id h)) + 1
    pub register : k'.register ≡ k.register
    pub device : (t : ℕ) → k'.device t ≡ devices_without k.device left t
    pub lap : IsWithinLap (shape_of h (command_id h)) (k.ring (command_id h))

  module _ (f : Finishes) where
    device_kept : (t d : ℕ) → k'.device t ≡ Some d → (k.device t ≡ Some d) × ((s : ℕ) → left ≡ Some s → t ≢ s)
    device_kept t d at = search (rules, false≢true, eq-eqb)

    device_stays : (t d : ℕ) → k.device t ≡ Some d → (k'.device t ≡ Some d) ⊎ (left ≡ Some t)
    device_stays t d at = search (rules, eqb-true)

    entry_same : (s : ℕ) → entry_of k' s ≡ entry_of k s
    unfolding entry_of
    entry_same s = rw f.register refl

    -- ---- what is let go

    gone_use : (l : Leased) → IsIn l (let_go h k left) → HasUse (InputContext next) l ⊎ ((s : ℕ) × (left ≡ Some s) × (HasUse (SlotEntry s) l ⊎ HasUse (DeviceContext s) l))
    gone_use l at = grind (arith, in_either l (range_of_command h next (rings.command_at h k next)) (slot_ranges h k left) at, use_of_command h next (rings.command_at h k next) l, use_of_slot h k left l)

    not_gone : (l : Leased) (u : Use) → HasUse u l → (u ≢ InputContext next) → ((s : ℕ) → left ≡ Some s → (u ≢ SlotEntry s) × (u ≢ DeviceContext s)) → is_among (let_go h k left) l ≡ false
    not_gone l u has context slot = grind (arith, false_unless (is_among (let_go h k left) l), among_is (let_go h k left) l, gone_use l, one_use l u)

    in_slot : (l : Leased) (s : ℕ) → left ≡ Some s → IsIn l (slot_ranges h k (Some s)) → IsIn l (let_go h k left)
    in_slot l s is at = in_right l (range_of_command h next (rings.command_at h k next)) (slot_ranges h k left) (subst (λ o. IsIn l (slot_ranges h k o)) (sym is) at)

    abbrev Kept : List Leased → Leased → Type 0
    Kept ls l = IsIn l ls × (is_among (let_go h k left) l ≡ false)

    -- ---- part by part

    context_was : (l : Leased) → IsIn l (context_ranges h k') → Kept (context_ranges h k) l
    unfolding context_ranges rings.unfinished_positions due_positions rings.next_command
    context_was l at =
        let found = from_flat_map (λ p. range_of_command h p (rings.command_at h k' p)) (filter (k'.ring (command_id h)).given
        (range_with_len (floor_number (k'.ring (command_id h))) count)) l at in
        let passed = from_filter (k'.ring (command_id h)).given (range_with_len (floor_number (k'.ring (command_id h))) count) found.0 found.1 in
        let range = from_range (floor_number (k'.ring (command_id h))) count found.0 passed.0 in
        let there : IsIn l (range_of_command h found.0 (rings.command_at h k found.0)) = search (rules, command_same h k k' f.queue) in (
          in_flat_map (λ p. range_of_command h p (rings.command_at h k p)) _ found.0 l (in_filter (k.ring (command_id h)).given _ found.0
              (grind (arith, in_range (floor_number (k.ring (command_id h))) count found.0, f.given, f.lap.given found.0)) (search (rules, f.given))) there,
          grind (arith, not_gone l (InputContext found.0), use_of_command h found.0 (rings.command_at h k found.0) l there),
        )

    context_stays : (l : Leased) → IsIn l (context_ranges h k) → is_among (let_go h k left) l ≡ false → IsIn l (context_ranges h k')
    unfolding context_ranges rings.unfinished_positions due_positions rings.next_command
    context_stays l at stays =
        let found = from_flat_map (λ p. range_of_command h p (rings.command_at h k p)) (filter (k.ring (command_id h)).given
        (range_with_len (floor_number (k.ring (command_id h))) count)) l at in
        let passed = from_filter (k.ring (command_id h)).given (range_with_len (floor_number (k.ring (command_id h))) count) found.0 found.1 in
        let range = from_range (floor_number (k.ring (command_id h))) count found.0 passed.0 in
        grind (
          arith,
          eqb-true,
          false≢true,
          in_among (let_go h k left) l,
          in_left l,
          command_same h k k' f.queue found.0,
          f.floor,
          f.given,
          in_flat_map (λ p. range_of_command h p (rings.command_at h k' p)) (filter (k'.ring (command_id h)).given
              (range_with_len (floor_number (k'.ring (command_id h))) count)) found.0 l,
          in_filter (k'.ring (command_id h)).given
              (range_with_len (floor_number (k'.ring (command_id h))) count) found.0,
          in_range (floor_number (k'.ring (command_id h))) count found.0,
        )

    entry_was : (l : Leased) → IsIn l (entry_ranges k') → Kept (entry_ranges k) l
    unfolding entry_ranges
    entry_was l at =
        let found = from_flat_map (λ s. range_of_entry k' s (k'.device s)) slots l at in
        let one = in_entry h k' found.0 (k'.device found.0) l found.2 in (
          grind (arith, in_flat_map (λ s. range_of_entry k s (k.device s)) slots found.0 l, entry_in h k found.0, entry_same found.0, device_kept found.0 one.0),
          grind (arith, not_gone l (SlotEntry found.0), device_kept found.0 one.0),
        )

    entry_stays : (l : Leased) → IsIn l (entry_ranges k) → is_among (let_go h k left) l ≡ false → IsIn l (entry_ranges k')
    unfolding entry_ranges
    entry_stays l at stays =
        let found = from_flat_map (λ s. range_of_entry k s (k.device s)) slots l at in
        grind (arith, in_entry h k found.0 (k.device found.0) l found.2, device_stays found.0, entry_same found.0, in_flat_map (λ s. range_of_entry k' s (k'.device s)) slots found.0 l, entry_in h k' found.0, in_among (let_go h k left) l, in_slot l, in_left l)

    device_was : (l : Leased) → IsIn l (device_ranges h k') → Kept (device_ranges h k) l
    unfolding device_ranges
    device_was l at =
        let found = from_flat_map (λ s. range_of_device h s (k'.device s)) slots l at in
        let one = in_device h found.0 (k'.device found.0) l found.2 in (
          grind (arith, in_flat_map (λ s. range_of_device h s (k.device s)) slots found.0 l, device_in h found.0, device_kept found.0 one.0),
          grind (arith, not_gone l (DeviceContext found.0), device_kept found.0 one.0),
        )

    device_stays_in : (l : Leased) → IsIn l (device_ranges h k) → is_among (let_go h k left) l ≡ false → IsIn l (device_ranges h k')
    unfolding device_ranges
    device_stays_in l at stays =
        let found = from_flat_map (λ s. range_of_device h s (k.device s)) slots l at in
        grind (arith, in_device h found.0 (k.device found.0) l found.2, device_stays found.0, in_flat_map (λ s. range_of_device h s (k'.device s)) slots found.0 l, device_in h found.0, in_among (let_go h k left) l, in_slot l, in_right l)

    table_same : table_range h (k'.register Erstba) ≡ table_range h (k.register Erstba)
    table_same = ap (λ g. table_range h (g Erstba)) f.register

    -- ---- all of them

    range_was : (l : Leased) → IsIn l (open_ranges h k') → Kept (open_ranges h k) l
    unfolding open_ranges
    range_was l at = five_into (λ ls. Kept ls l) (λ us vs was. (in_left l us vs was.0, was.1)) (λ us vs was. (in_right l us vs was.0, was.1)) l (segment_ranges h)
        (table_range h (k'.register Erstba)) (context_ranges h k') (entry_ranges k') (device_ranges h k') (segment_ranges h) (table_range h (k.register Erstba)) (context_ranges h k)
        (entry_ranges k) (device_ranges h k)
        (search (rules, not_gone l EventSegment, use_of_segment)) (search (rules, table_same, not_gone l SegmentTable, use_of_table)) (context_was l) (entry_was l) (device_was l) at

    range_stays : (l : Leased) → is_among (let_go h k left) l ≡ false → IsIn l (open_ranges h k) → IsIn l (open_ranges h k')
    unfolding open_ranges
    range_stays l stays at = five_into (IsIn l) (in_left l) (in_right l) l (segment_ranges h) (table_range h (k.register Erstba)) (context_ranges h k) (entry_ranges k)
        (device_ranges h k) _ _ _ _ _ (λ here. here) (λ here. subst (IsIn l) (sym table_same) here) (λ here. context_stays l here stays) (λ here. entry_stays l here stays)
        (λ here. device_stays_in l here stays) at

    pub ranges_narrow : (l : Leased) → is_among (open_ranges h k') l ≡ (is_among (open_ranges h k) l && not (is_among (let_go h k left) l))
    ranges_narrow l = search (rules, both_ways, range_was, among_is, open_ranges, and_from, in_among, and_parts, range_stays, not-true)
