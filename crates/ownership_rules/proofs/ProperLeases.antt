-- Open leases have words of their own: a Link's crossing has a position before it
use Rattle.ownership_rules.proofs.Words.{arith, ◌<◌, ◌∷◌, ◌++◌, ℕ, List, [], map, Option, Some, None, sym, subst, refl, inl, inr, flat_map, and_parts, leased_crossings, crossing_positive, Command, named_context, Header, Ring, Erstba, driver_rings, event_shape, Known, Leased, Block, Link, Range, open_on, open_leases, open_ranges, segment_ranges, table_range, context_ranges, range_of_command, range_of_context, entry_ranges, range_of_entry, device_ranges, range_of_device, slots}
use Rattle.ownership_rules.proofs.Among.{IsIn, from_filter}
use Rattle.ring_knowledge.specs.Rings as rings
use Rattle.ownership_rules.specs.OpenLeases

-- a Link's crossing leads from one position to the next
abbrev pub IsProper : Leased → Type 0
IsProper (Block r p) = Unit {0}
IsProper (Link r q) = 0 < q
IsProper (Range n a e) = Unit {0}

abbrev pub AreProper : List Leased → Type 0
AreProper ls = (l : Leased) → IsIn l ls → IsProper l

none : AreProper []
none l at = absurd at

one : (n a : ℕ) (e : OpenLeases.Use) → AreProper (Range n a e ∷ [])
one n a e l at = elim at [ inl here ↦ subst IsProper (sym here) tt | inr nowhere ↦ absurd nowhere ]

both : (xs ys : List Leased) → AreProper xs → AreProper ys → AreProper (xs ++ ys)
both [] ys f g l at = g l at
both (x ∷ xs) ys f g l at =
    elim at [
      | inl here ↦ f l (inl here)
      | inr later ↦ both xs ys (λ m there. f m (inr there)) g l later
    ]

each : {X : Type 0} (f : X → List Leased) (xs : List X) → ((x : X) → AreProper (f x)) → AreProper (flat_map f xs)
each f [] proper = none
each f (x ∷ xs) proper = both (f x) (flat_map f xs) (proper x) (each f xs proper)

mapped : {X : Type 0} (f : X → Leased) (xs : List X) → ((x : X) → IsIn x xs → IsProper (f x)) → AreProper (map f xs)
mapped f [] proper l at = absurd at
mapped f (x ∷ xs) proper l at =
    elim at [
      | inl here ↦ subst IsProper (sym here) (proper x (inl refl))
      | inr later ↦ mapped f xs (λ y there. proper y (inr there)) l later
    ]

module _ (h : Header) (k : Known) where
  on_ring : (r : Ring) → AreProper (open_on h k r)
  unfolding open_on leased_crossings
  on_ring r = grind (arith, both, mapped, IsIn, from_filter, crossing_positive, and_parts)

  segments : AreProper (segment_ranges h)
  unfolding segment_ranges
  segments = mapped _ (event_shape h).segments (λ s at. tt)

  table : (v : Option ℕ) → AreProper (table_range h v)
  unfolding table_range
  table v = grind (arith, none, one)

  context : (p : ℕ) (c : Option ℕ) → AreProper (range_of_context h p c)
  unfolding range_of_context
  context p c = grind (arith, none, one)

  command : (p : ℕ) (c : Option Command) → AreProper (range_of_command h p c)
  unfolding range_of_command
  command p None = none
  command p (Some c) = context p (named_context c)

  entry : (s : ℕ) (d : Option ℕ) → AreProper (range_of_entry k s d)
  unfolding range_of_entry
  entry s d = grind (arith, none, one)

  device : (s : ℕ) (d : Option ℕ) → AreProper (range_of_device h s d)
  unfolding range_of_device
  device s d = grind (arith, none, one)

  ranges : AreProper (open_ranges h k)
  unfolding open_ranges context_ranges entry_ranges device_ranges
  ranges =
      both (segment_ranges h ++ table_range h (k.register Erstba) ++ context_ranges h k ++ entry_ranges k) _
      (both (segment_ranges h ++ table_range h (k.register Erstba) ++ context_ranges h k) _
      (both (segment_ranges h ++ table_range h (k.register Erstba)) _
      (both (segment_ranges h) _ segments (table (k.register Erstba)))
      (each _ (rings.unfinished_positions h k) (λ p. command p (rings.command_at h k p))))
      (each _ slots (λ s. entry s (k.device s))))
      (each _ slots (λ s. device s (k.device s)))

  pub open_are_proper : AreProper (open_leases h k)
  unfolding open_leases
  open_are_proper = both (flat_map (open_on h k) (driver_rings h)) (open_ranges h k) (each (open_on h k) (driver_rings h) on_ring) ranges
