-- The leases that are open, kind by kind: those that lie on no command or transfer ring are ranges
use Rattle.leases.proofs.BaseWords.{arith, rules, ◌≡◌, ◌*◌, ◌∷◌, ℕ, true, List, [], Option, Some, sym, subst, refl, inl, inr, flat_map, named_context, Segment, Header, Ring, Erstba, driver_rings, event_shape, Known, Leased, Block, Link, Range, EventSegment, SegmentTable, InputContext, SlotEntry, DeviceContext, is_among, open_leases, open_on, open_ranges, segment_ranges, table_range, context_ranges, range_of_command, range_of_context, entry_ranges, range_of_entry, device_ranges, range_of_device, IsIn, among_is}
use Rattle.leases.proofs.LeaseBooks.Members.{InOn, five_into, from_flat_map, from_map, in_either, in_flat_map, in_left, in_on, in_right, on_in}
use Rattle.ring_knowledge.specs.Rings as rings

abbrev pub IsRange : Leased → Type 0
IsRange (Block r p) = ⊥
IsRange (Link r q) = ⊥
IsRange (Range n a e) = Unit {0}

abbrev pub AreRanges : List Leased → Type 0
AreRanges ls = (l : Leased) → IsIn l ls → IsRange l

module _ (h : Header) (k : Known) (P : Leased → Type 0) where
  -- what holds of each kind of range that is open
  pub record HoldsOfRanges : Type 0 where
    pub segments : (n a : ℕ) → P (Range n a EventSegment)
    pub table : (n a v : ℕ) → k.register Erstba ≡ Some v → P (Range n a SegmentTable)
    pub contexts : (n a p : ℕ) → IsIn p (rings.unfinished_positions h k) → P (Range n a (InputContext p))
    pub entries : (n a s d : ℕ) → k.device s ≡ Some d → P (Range n a (SlotEntry s))
    pub devices : (n a s d : ℕ) → k.device s ≡ Some d → P (Range n a (DeviceContext s))

  module _ (each : HoldsOfRanges) where
    alone : (m l : Leased) → P m → IsIn l (m ∷ []) → P l
    alone m l holds at = elim at [ inl here ↦ subst P (sym here) holds | inr nowhere ↦ absurd nowhere ]

    of_table : (v : Option ℕ) (l : Leased) → k.register Erstba ≡ v → IsIn l (table_range h v) → P l
    unfolding table_range
    of_table v l e at = grind (arith, alone)

    of_context : (p : ℕ) → IsIn p (rings.unfinished_positions h k) → (c : Option ℕ) (l : Leased) → IsIn l (range_of_context h p c) → P l
    unfolding range_of_context
    of_context p there c l at = grind (arith, alone)

    of_entry : (s : ℕ) (d : Option ℕ) (l : Leased) → k.device s ≡ d → IsIn l (range_of_entry k s d) → P l
    unfolding range_of_entry
    of_entry s d l e at = grind (arith, alone)

    of_device : (s : ℕ) (d : Option ℕ) (l : Leased) → k.device s ≡ d → IsIn l (range_of_device h s d) → P l
    unfolding range_of_device
    of_device s d l e at = grind (arith, alone)

    pub of_range : (l : Leased) → IsIn l (open_ranges h k) → P l
    unfolding open_ranges segment_ranges context_ranges entry_ranges device_ranges range_of_command
    of_range l at =
        five_into (λ xs. P l) (λ xs ys p. p) (λ xs ys p. p) l (segment_ranges h) (table_range h (k.register Erstba)) (context_ranges h k) (entry_ranges k)
        (device_ranges h k) [] [] [] [] []
        (λ one. grind (arith, from_map (λ (s : Segment). Range (16 * s.count) s.base EventSegment) (event_shape h).segments l one, each.segments))
        (of_table (k.register Erstba) l refl) (search (rules, from_flat_map, of_context, named_context)) (search (rules, from_flat_map, of_entry)) (search (rules, from_flat_map, of_device)) at

  -- what is open is open on a ring, or a range
  pub each_open : ((q : Ring) → IsIn q (driver_rings h) → (l : Leased) → InOn q (k.ring q.id) l → P l) → ((l : Leased) → IsIn l (open_ranges h k) → P l) →
      (l : Leased) → is_among (open_leases h k) l ≡ true → P l
  unfolding open_leases
  each_open on ranges l e = search (rules, in_either l (flat_map (open_on h k) (driver_rings h)) (open_ranges h k) (among_is _ l e), from_flat_map (open_on h k) (driver_rings h) l, in_on)

module _ (h : Header) (k : Known) (l : Leased) where
  pub range_open : IsIn l (open_ranges h k) → IsIn l (open_leases h k)
  unfolding open_leases
  range_open at = in_right l (flat_map (open_on h k) (driver_rings h)) (open_ranges h k) at

  pub ring_open : (q : Ring) → IsIn q (driver_rings h) → InOn q (k.ring q.id) l → IsIn l (open_leases h k)
  unfolding open_leases
  ring_open q among on = in_left l (flat_map (open_on h k) (driver_rings h)) (open_ranges h k) (in_flat_map (open_on h k) (driver_rings h) q l among (on_in h k q l on))

  pub segment_open : IsIn l (segment_ranges h) → IsIn l (open_leases h k)
  unfolding open_ranges
  segment_open at = range_open (search (rules, in_left, in_right))

  pub table_open : IsIn l (table_range h (k.register Erstba)) → IsIn l (open_leases h k)
  unfolding open_ranges
  table_open at = range_open (search (rules, in_left, in_right))

  pub context_open : IsIn l (context_ranges h k) → IsIn l (open_leases h k)
  unfolding open_ranges
  context_open at = range_open (search (rules, in_left, in_right))

  pub entry_open : IsIn l (entry_ranges k) → IsIn l (open_leases h k)
  unfolding open_ranges
  entry_open at = range_open (search (rules, in_left, in_right))

  pub device_open : IsIn l (device_ranges h k) → IsIn l (open_leases h k)
  unfolding open_ranges
  device_open at = range_open (search (rules, in_left, in_right))

pub open_are_ranges : (h : Header) (k : Known) → AreRanges (open_ranges h k)
open_are_ranges h k l at = of_range h k IsRange (search rules) l at
