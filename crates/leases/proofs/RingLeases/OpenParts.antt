-- What each part of the leases that are open is of, and which stay the same where other rings are there
use Rattle.leases.proofs.MiddleLaws.{arith, rules, ◌≡◌, ◌*◌, ◌++◌, ◌∷◌, ◌⊎◌, ℕ, Bool, true, false, List, [], map, filter, Option, None, Some, option_and_then, slice_get, refl, ap, inl, inr, fun_ext, cases_Bool, flat_map, slots, RingView, Shape, due_positions, command_of, Command, named_context, Header, Ring, Known, Erstba, Dcbaap, shape_of, command_id, event_shape, table_bytes, base_address, entry_of, unfinished_positions, command_at, context_ranges, device_ranges, entry_ranges, open_ranges, range_of_command, range_of_context, range_of_device, range_of_entry, segment_ranges, table_range, Leased, Block, Link, Range, DeviceContext, EventSegment, InputContext, SegmentTable, SlotEntry, IsIn, is_input_context, is_of_slot, driver_rings, open_leases, open_on, InOn, block, from_flat_map, in_either, in_on, link, IsRange, is_segment, segments_are}

-- the range is the segment table
abbrev pub is_table : Leased → Bool
is_table (Range n a SegmentTable) = true
is_table _ = false

abbrev pub AllAre : (Leased → Bool) → List Leased → Type 0
AllAre test ls = (l : Leased) → IsIn l ls → test l ≡ true

-- ---- lists of which all pass, and of which none does

pub filter_out : (p : Leased → Bool) (xs : List Leased) → ((l : Leased) → IsIn l xs → p l ≡ false) → filter p xs ≡ []
filter_out p [] none = refl
filter_out p (x ∷ xs) none = rw (none x (inl refl)) (filter_out p xs (λ l at. none l (inr at)))

pub filter_alike_in : (p q : Leased → Bool) (xs : List Leased) → ((l : Leased) → IsIn l xs → p l ≡ q l) → filter p xs ≡ filter q xs
filter_alike_in p q [] same = refl
filter_alike_in p q (x ∷ xs) same = elim (cases_Bool (q x)) [
  | inl kept ↦ rw (same x (inl refl), kept) (ap (λ l. x ∷ l) (filter_alike_in p q xs (λ l at. same l (inr at))))
  | inr out ↦ rw (same x (inl refl), out) (filter_alike_in p q xs (λ l at. same l (inr at)))
]

-- what holds of each of two lists
pub all_both : (p : Leased → Bool) (xs ys : List Leased) → AllAre p xs → AllAre p ys → AllAre p (xs ++ ys)
all_both p xs ys first second l at = elim (in_either l xs ys at) [ inl here ↦ first l here | inr there ↦ second l there ]

-- ---- the parts

pub tables_are : (h : Header) (v : Option ℕ) → AllAre is_table (table_range h v)
unfolding table_range
tables_are h None l at = absurd at
tables_are h (Some v) l at = elim at [ inl here ↦ ap is_table here | inr none ↦ absurd none ]

context_is : (h : Header) (p : ℕ) (c : Option ℕ) → AllAre is_input_context (range_of_context h p c)
unfolding range_of_context
context_is h p None l at = absurd at
context_is h p (Some c) l at = elim at [ inl here ↦ ap is_input_context here | inr none ↦ absurd none ]

command_is : (h : Header) (p : ℕ) (c : Option Command) → AllAre is_input_context (range_of_command h p c)
unfolding range_of_command
command_is h p None l at = absurd at
command_is h p (Some c) l at = context_is h p (named_context c) l at

pub contexts_are : (h : Header) (k : Known) → AllAre is_input_context (context_ranges h k)
unfolding context_ranges
contexts_are h k l at = let found = from_flat_map (λ p. range_of_command h p (command_at h k p)) (unfinished_positions h k) l at in command_is h found.0 (command_at h k found.0) l found.2

entry_is : (k : Known) (s : ℕ) (d : Option ℕ) → AllAre is_of_slot (range_of_entry k s d)
unfolding range_of_entry
entry_is k s None l at = absurd at
entry_is k s (Some d) l at = elim at [ inl here ↦ ap is_of_slot here | inr none ↦ absurd none ]

pub entries_are : (k : Known) → AllAre is_of_slot (entry_ranges k)
unfolding entry_ranges
entries_are k l at = let found = from_flat_map (λ s. range_of_entry k s (k.device s)) slots l at in entry_is k found.0 (k.device found.0) l found.2

device_is : (h : Header) (s : ℕ) (d : Option ℕ) → AllAre is_of_slot (range_of_device h s d)
unfolding range_of_device
device_is h s None l at = absurd at
device_is h s (Some d) l at = elim at [ inl here ↦ ap is_of_slot here | inr none ↦ absurd none ]

pub devices_are : (h : Header) (k : Known) → AllAre is_of_slot (device_ranges h k)
unfolding device_ranges
devices_are h k l at = let found = from_flat_map (λ s. range_of_device h s (k.device s)) slots l at in device_is h found.0 (k.device found.0) l found.2

-- ---- which part has what is open

-- a number for each of these parts
abbrev use_of : Leased → ℕ
use_of (Block r p) = 0
use_of (Link r q) = 0
use_of (Range n a EventSegment) = 1
use_of (Range n a SegmentTable) = 2
use_of (Range n a (InputContext p)) = 3
use_of (Range n a (SlotEntry s)) = 4
use_of (Range n a (DeviceContext s)) = 4

segment_use : (l : Leased) → is_segment l ≡ true → use_of l ≡ 1
segment_use l is = grind arith

table_use : (l : Leased) → is_table l ≡ true → use_of l ≡ 2
table_use l is = grind arith

context_use : (l : Leased) → is_input_context l ≡ true → use_of l ≡ 3
context_use l is = grind arith

slot_use : (l : Leased) → is_of_slot l ≡ true → use_of l ≡ 4
slot_use l is = grind arith

ring_use : (l : Leased) → (IsRange l → ⊥) → use_of l ≡ 0
ring_use (Block r p) none = refl
ring_use (Link r q) none = refl
ring_use (Range n a e) none = absurd (none tt)

on_no_range : (q : Ring) (v : RingView) (l : Leased) → InOn q v l → IsRange l → ⊥
on_no_range q v _ (block p low high given) is = is
on_no_range q v _ (link c low high crossed) is = is

pub rings_no_range : (h : Header) (k : Known) (rs : List Ring) (l : Leased) → IsIn l (flat_map (open_on h k) rs) → IsRange l → ⊥
rings_no_range h k rs l at = let found = from_flat_map (open_on h k) rs l at in on_no_range found.0 (k.ring found.0.id) l (in_on h k found.0 l found.2)

module _ (h : Header) (k : Known) (l : Leased) where
  pub data OpenPart : Type 0 where
    on_ring : IsIn l (flat_map (open_on h k) (driver_rings h)) → OpenPart
    segment : IsIn l (segment_ranges h) → OpenPart
    table : IsIn l (table_range h (k.register Erstba)) → OpenPart
    context : IsIn l (context_ranges h k) → OpenPart
    entry : IsIn l (entry_ranges k) → OpenPart
    device : IsIn l (device_ranges h k) → OpenPart

  pub part_of : IsIn l (open_leases h k) → OpenPart
  unfolding open_leases open_ranges
  part_of at =
      let s = segment_ranges h in
      let t = table_range h (k.register Erstba) in
      let c = context_ranges h k in
      let e = entry_ranges k in
      elim (in_either l (flat_map (open_on h k) (driver_rings h)) (s ++ t ++ c ++ e ++ device_ranges h k) at) [
        | inl here ↦ on_ring here
        | inr ranges ↦ elim (in_either l (s ++ t ++ c ++ e) (device_ranges h k) ranges) [
          | inr here ↦ device here
          | inl before ↦ elim (in_either l (s ++ t ++ c) e before) [
            | inr here ↦ entry here
            | inl first ↦ elim (in_either l (s ++ t) c first) [
              | inr here ↦ context here
              | inl two ↦ elim (in_either l s t two) [ inl here ↦ segment here | inr here ↦ table here ]
            ]
          ]
        ]
      ]

  -- each part by itself
  module _ (at : IsIn l (open_leases h k)) where
    pub open_segment : is_segment l ≡ true → IsIn l (segment_ranges h)
    open_segment is = elim (part_of at) [
      | on_ring here ↦ absurd (omega (arith, ring_use l (rings_no_range h k (driver_rings h) l here), segment_use l is))
      | segment here ↦ here
      | table here ↦ absurd (omega (arith, table_use l (tables_are h (k.register Erstba) l here), segment_use l is))
      | context here ↦ absurd (omega (arith, context_use l (contexts_are h k l here), segment_use l is))
      | entry here ↦ absurd (omega (arith, slot_use l (entries_are k l here), segment_use l is))
      | device here ↦ absurd (omega (arith, slot_use l (devices_are h k l here), segment_use l is))
    ]

    pub open_context : is_input_context l ≡ true → IsIn l (context_ranges h k)
    open_context is = elim (part_of at) [
      | on_ring here ↦ absurd (omega (arith, ring_use l (rings_no_range h k (driver_rings h) l here), context_use l is))
      | segment here ↦ absurd (omega (arith, segment_use l (segments_are h l here), context_use l is))
      | table here ↦ absurd (omega (arith, table_use l (tables_are h (k.register Erstba) l here), context_use l is))
      | context here ↦ here
      | entry here ↦ absurd (omega (arith, slot_use l (entries_are k l here), context_use l is))
      | device here ↦ absurd (omega (arith, slot_use l (devices_are h k l here), context_use l is))
    ]

    pub open_slot : is_of_slot l ≡ true → IsIn l (entry_ranges k) ⊎ IsIn l (device_ranges h k)
    open_slot is = elim (part_of at) [
      | on_ring here ↦ absurd (omega (arith, ring_use l (rings_no_range h k (driver_rings h) l here), slot_use l is))
      | segment here ↦ absurd (omega (arith, segment_use l (segments_are h l here), slot_use l is))
      | table here ↦ absurd (omega (arith, table_use l (tables_are h (k.register Erstba) l here), slot_use l is))
      | context here ↦ absurd (omega (arith, context_use l (contexts_are h k l here), slot_use l is))
      | entry here ↦ inl here
      | device here ↦ inr here
    ]

-- ---- with another header, and other knowledge of rings

module _ (h g : Header) (k l : Known) where
  pub segments_same : event_shape g ≡ event_shape h → segment_ranges g ≡ segment_ranges h
  unfolding segment_ranges
  segments_same events = ap (λ (shape : Shape). map (λ s. Range (16 * s.count) s.base EventSegment) shape.segments) events

  pub table_same : (v : Option ℕ) → event_shape g ≡ event_shape h → table_range g v ≡ table_range h v
  unfolding table_range
  table_same None events = refl
  table_same (Some v) events = ap (λ (shape : Shape). Range (table_bytes shape) (base_address v) SegmentTable ∷ []) events

  pub entries_same : l.device ≡ k.device → l.register Dcbaap ≡ k.register Dcbaap → entry_ranges l ≡ entry_ranges k
  unfolding entry_ranges range_of_entry entry_of
  entries_same devices arrays = ap (λ f. flat_map f slots) (fun_ext (λ s. grind arith))

  pub devices_same : g.context_size ≡ h.context_size → l.device ≡ k.device → device_ranges g l ≡ device_ranges h k
  unfolding device_ranges range_of_device
  devices_same sizes devices = ap (λ f. flat_map f slots) (fun_ext (λ s. grind arith))

  command_same : g.context_size ≡ h.context_size → (p : ℕ) (c : Option Command) → range_of_command g p c ≡ range_of_command h p c
  unfolding range_of_command range_of_context
  command_same sizes p c = grind (arith, named_context)

  -- with a command ring that stays as it was
  pub contexts_same : g.context_size ≡ h.context_size → command_id g ≡ command_id h → shape_of g (command_id g) ≡ shape_of h (command_id h) → l.ring (command_id g) ≡ k.ring (command_id h) →
      context_ranges g l ≡ context_ranges h k
  unfolding context_ranges unfinished_positions command_at
  contexts_same sizes id shape view = search (rules, flat_map, filter, due_positions, command_same, option_and_then, command_of, slice_get, range_of_command)

-- of a command ring of which nothing was given no context is lent
pub no_contexts : (h : Header) (k : Known) → ((p : ℕ) → (k.ring (command_id h)).given p ≡ false) → context_ranges h k ≡ []
unfolding context_ranges unfinished_positions
no_contexts h k none = rw (none_pass (due_positions (shape_of h (command_id h)) (k.ring (command_id h)))) refl
  where
    none_pass : (ps : List ℕ) → filter (k.ring (command_id h)).given ps ≡ []
    none_pass [] = refl
    none_pass (p ∷ ps) = rw (none p) (none_pass ps)
