-- An event begins no lease: behind it no word is under lease that wasn't before
use Rattle.safety.proofs.MiddleLaws.{[], ◌≡◌, ◌+◌, ◌<◌, ◌≤◌, ◌⊎◌, ◌==◌, ◌&&◌, ◌∷◌, ◌++◌, ◌∙◌, ℕ, suc, zero, Bool, true, false, not, List, map, filter, Option, None, Some, arith, refl, sym, ap, subst, inl, inr, eq-eqb, is_handed_over, list_any, flat_map, range_with_len, false≢true, false_from_ne_true, and_parts, and_from, or_parts, Shape, place_count, is_crossing, RingView, floor_number, due_positions, due_crossings, leased_positions, leased_crossings, Header, Ring, Erstba, IsHeader, shape_of, command_id, driver_rings, is_driver_kind, clash, Known, command_at, unfinished_positions, entry_of, Leased, Range, SlotEntry, slots, covers, segment_ranges, table_range, range_of_command, context_ranges, range_of_entry, entry_ranges, range_of_device, device_ranges, open_ranges, open_on, open_leases, is_leased, IsIn, some_of, any_of, in_filter, from_filter, is_the_controllers, rules, HasRing, has_ring, found_in, header_parts, together, in_range, in_left, in_right, SameDriver, RingBehind}
use Rattle.ownership_rules.specs.OpenLeases.{Block, Link}
use Rattle.safety.specs.DriverRings.{IsDriverRing}
use Rattle.safety.proofs.AlikeEvents.HeldFurther.{command_same}

-- ---- lists

pub from_range : (a n x : ℕ) → IsIn x (range_with_len a n) → (a ≤ x) × (x < a + n)
from_range a zero x at = absurd at
from_range a (suc n) x at =
    elim at [
      | inl here ↦ (omega arith, omega arith)
      | inr later ↦ let rest = from_range (a + 1) n x later in (omega (arith, rest.0), omega (arith, rest.1))
    ]

pub from_both : {X : Type 0} (x : X) (xs ys : List X) → IsIn x (xs ++ ys) → IsIn x xs ⊎ IsIn x ys
from_both x [] ys at = inr at
from_both x (y ∷ xs) ys at =
    elim at [
      | inl here ↦ inl (inl here)
      | inr later ↦ elim (from_both x xs ys later) [ inl left ↦ inl (inr left) | inr right ↦ inr right ]
    ]

pub both_fewer : {X : Type 0} (x : X) (xs ys us vs : List X) → (IsIn x xs → IsIn x us) → (IsIn x ys → IsIn x vs) → IsIn x (xs ++ ys) → IsIn x (us ++ vs)
both_fewer x xs ys us vs left right at =
    elim (from_both x xs ys at) [ inl here ↦ in_left x us vs (left here) | inr there ↦ in_right x us vs (right there) ]

pub flat_fewer : {X Y : Type 0} (f g : X → List Y) (xs : List X) (y : Y) → ((x : X) → IsIn x xs → IsIn y (f x) → IsIn y (g x)) → IsIn y (flat_map f xs) → IsIn y (flat_map g xs)
flat_fewer f g [] y each at = at
flat_fewer f g (x ∷ xs) y each at =
    both_fewer y (f x) (flat_map f xs) (g x) (flat_map g xs) (each x (inl refl)) (flat_fewer f g xs y (λ z in_rest. each z (inr in_rest))) at

in_map : {X Y : Type 0} (f : X → Y) (xs : List X) (x : X) → IsIn x xs → IsIn (f x) (map f xs)
in_map f [] x at = absurd at
in_map f (y ∷ xs) x at = elim at [ inl here ↦ inl (ap f here) | inr later ↦ inr (in_map f xs x later) ]

pub map_fewer : {X Y : Type 0} (f : X → Y) (xs ys : List X) (y : Y) → ((x : X) → IsIn x xs → IsIn x ys) → IsIn y (map f xs) → IsIn y (map f ys)
map_fewer f [] ys y each at = absurd at
map_fewer f (x ∷ xs) ys y each at =
    elim at [
      | inl here ↦ subst (λ z. IsIn z (map f ys)) (sym here) (in_map f ys x (each x (inl refl)))
      | inr later ↦ map_fewer f xs ys y (λ z in_rest. each z (inr in_rest)) later
    ]

flat_more : {X Y : Type 0} (f : X → List Y) (xs ys : List X) (y : Y) → ((x : X) → IsIn x xs → IsIn x ys) → IsIn y (flat_map f xs) → IsIn y (flat_map f ys)
flat_more f [] ys y each at = absurd at
flat_more f (x ∷ xs) ys y each at =
    elim (from_both y (f x) (flat_map f xs) at) [
      | inl here ↦ in_each f ys x y (each x (inl refl)) here
      | inr later ↦ flat_more f xs ys y (λ z in_rest. each z (inr in_rest)) later
    ]
  where
    in_each : {X Y : Type 0} (f : X → List Y) (ys : List X) (x : X) (y : Y) → IsIn x ys → IsIn y (f x) → IsIn y (flat_map f ys)
    in_each f [] x y at there = absurd at
    in_each f (z ∷ ys) x y at there =
        elim at [
          | inl here ↦ in_left y (f z) (flat_map f ys) (subst (λ u. IsIn y (f u)) here there)
          | inr later ↦ in_right y (f z) (flat_map f ys) (in_each f ys x y later there)
        ]

pub none_fewer : {X : Type 0} (p : X → Bool) (xs ys : List X) → ((x : X) → IsIn x ys → IsIn x xs) → list_any p xs ≡ false → list_any p ys ≡ false
none_fewer p xs ys each none = search (rules, false_from_ne_true, list_any, some_of, false≢true, any_of)

-- ---- one ring

module _ (shape : Shape) (memory : ℕ → ℕ) (v u : RingView) (b : RingBehind shape memory v u) where
  -- a given position that is due behind the event was due before
  was_due : (p : ℕ) → IsIn p (due_positions shape u) → u.given p ≡ true → IsIn p (due_positions shape v)
  unfolding due_positions
  was_due p at given =
      let range = from_range (floor_number u) (place_count shape) p at in
      in_range (floor_number v) (place_count shape) p (omega (arith, range.0, b.on)) (b.before.given_within p (ap (λ f. f p) (sym b.same.given) ∙ given))

  pub given_fewer : (p : ℕ) → IsIn p (filter u.given (due_positions shape u)) → IsIn p (filter v.given (due_positions shape v))
  given_fewer p at =
      let found = from_filter u.given (due_positions shape u) p at in
      in_filter v.given (due_positions shape v) p (was_due p found.0 found.1) (ap (λ f. f p) (sym b.same.given) ∙ found.1)

  pub positions_fewer : (p : ℕ) → IsIn p (leased_positions shape u) → IsIn p (leased_positions shape v)
  unfolding leased_positions
  positions_fewer p at =
      let found = from_filter (is_handed_over u) (due_positions shape u) p at in
      let parts = and_parts (u.given p) (not (u.free p)) found.1 in
      in_filter (is_handed_over v) (due_positions shape v) p (was_due p found.0 parts.0)
      (and_from (v.given p) (not (v.free p)) (ap (λ f. f p) (sym b.same.given) ∙ parts.0) (ap (λ f. not (f p)) (sym b.same.free) ∙ parts.1))

  pub crossings_fewer : (q : ℕ) → IsIn q (leased_crossings shape u) → IsIn q (leased_crossings shape v)
  unfolding leased_crossings due_crossings
  crossings_fewer q at =
      let found = from_filter (λ q. is_crossing shape q && u.crossed q) (range_with_len (floor_number u) (place_count shape + 1)) q at in
      let range = from_range (floor_number u) (place_count shape + 1) q found.0 in
      let parts = and_parts (is_crossing shape q) (u.crossed q) found.1 in
      let crossed : v.crossed q ≡ true = ap (λ f. f q) (sym b.same.crossed) ∙ parts.1 in
      let below : q < floor_number v + (place_count shape + 1) = elim (b.before.crossed_within q crossed) [ inl near ↦ omega arith | inr first ↦ omega arith ] in
      in_filter (λ q. is_crossing shape q && v.crossed q) (range_with_len (floor_number v) (place_count shape + 1)) q
      (in_range (floor_number v) (place_count shape + 1) q (omega (arith, range.0, b.on)) below) (and_from (is_crossing shape q) (v.crossed q) parts.0 crossed)

-- ---- all that is known

module _ (h : Header) where
  -- a ring of the driver's stands behind the event, any other as it was
  abbrev pub RingsBehind : Known → Known → Type 0
  RingsBehind k l = (r : ℕ) → (l.ring r ≡ k.ring r) ⊎ (IsDriverRing h r × RingBehind (shape_of h r) k.memory (k.ring r) (l.ring r))

  pub record Behind (k l : Known) : Type 0 where
    pub driver : SameDriver (let x : Known = record k { reads = k.reads + 1 } in x) l
    pub rings : RingsBehind k l
    pub devices : (s d : ℕ) → l.device s ≡ Some d → k.device s ≡ Some d

  -- the shape of a ring's ID is its own
  shape_here : IsHeader h → (r : Ring) → IsIn r h.rings → IsDriverRing h r.id → shape_of h r.id ≡ r.shape
  shape_here is r at driver =
      let has : HasRing h r.id = has_ring h r.id driver in
      elim (together h.rings r has.ring (header_parts h is).1 at (found_in (λ q. q.id == r.id) h.rings has.ring has.found).0) [
        | inl same ↦ has.shape ∙ ap (λ (q : Ring). q.shape) (sym same)
        | inr apart ↦ elim apart [
          | inl none ↦ absurd (false≢true (sym (first_of r has.ring none) ∙ eq-eqb r.id has.ring.id (sym has.id)))
          | inr none ↦ absurd (false≢true (sym (first_of has.ring r none) ∙ eq-eqb has.ring.id r.id has.id))
        ]
      ]
    where
      first_of : (x y : Ring) → clash x y ≡ false → (x.id == y.id) ≡ false
      first_of x y none = (or_parts (x.id == y.id) _ (or_parts _ _ (or_parts _ _ none).0).0).0

  module _ (is : IsHeader h) (k l : Known) (b : Behind k l) where
    pub unfinished_fewer : (p : ℕ) → IsIn p (unfinished_positions h l) → IsIn p (unfinished_positions h k)
    unfolding unfinished_positions
    unfinished_fewer p at =
        elim (b.rings (command_id h)) [
          | inl same ↦ subst (λ (v : RingView). IsIn p (filter v.given (due_positions (shape_of h (command_id h)) v))) same at
          | inr on ↦ given_fewer (shape_of h (command_id h)) k.memory (k.ring (command_id h)) (l.ring (command_id h)) on.1 p at
        ]

    ring_fewer : (r : Ring) → IsIn r (driver_rings h) → (x : Leased) → IsIn x (open_on h l r) → IsIn x (open_on h k r)
    unfolding open_on driver_rings
    ring_fewer r at x there =
        elim (b.rings r.id) [
          | inl same ↦
              subst (λ (v : RingView). IsIn x (map (Block r.id) (leased_positions r.shape v) ++ map (Link r.id) (leased_crossings r.shape v))) same there
          | inr on ↦
              let shape : shape_of h r.id ≡ r.shape = shape_here is r ((from_filter (λ (q : Ring). is_driver_kind q.shape.kind) h.rings r at).0) on.0 in
              let behind : RingBehind r.shape k.memory (k.ring r.id) (l.ring r.id) = subst (λ s. RingBehind s k.memory (k.ring r.id) (l.ring r.id)) shape on.1 in
              both_fewer x (map (Block r.id) (leased_positions r.shape (l.ring r.id))) (map (Link r.id) (leased_crossings r.shape (l.ring r.id)))
              (map (Block r.id) (leased_positions r.shape (k.ring r.id))) (map (Link r.id) (leased_crossings r.shape (k.ring r.id)))
              (map_fewer (Block r.id) (leased_positions r.shape (l.ring r.id)) (leased_positions r.shape (k.ring r.id)) x (positions_fewer r.shape k.memory (k.ring r.id) (l.ring r.id) behind))
              (map_fewer (Link r.id) (leased_crossings r.shape (l.ring r.id)) (leased_crossings r.shape (k.ring r.id)) x (crossings_fewer r.shape k.memory (k.ring r.id) (l.ring r.id) behind)) there
        ]

    contexts_fewer : (x : Leased) → IsIn x (context_ranges h l) → IsIn x (context_ranges h k)
    unfolding context_ranges
    contexts_fewer x at =
        flat_more (λ p. range_of_command h p (command_at h k p)) (unfinished_positions h l) (unfinished_positions h k) x unfinished_fewer
        (flat_fewer (λ p. range_of_command h p (command_at h l p)) (λ p. range_of_command h p (command_at h k p)) (unfinished_positions h l) x
        (λ p there here. subst (λ o. IsIn x (range_of_command h p o)) (command_same h k l p (b.driver.rings (command_id h)).queue) here) at)

    pub entry_stays : (s : ℕ) → entry_of l s ≡ entry_of k s
    unfolding entry_of
    entry_stays s = rw b.driver.register refl

    entries_fewer : (x : Leased) → IsIn x (entry_ranges l) → IsIn x (entry_ranges k)
    unfolding entry_ranges range_of_entry
    entries_fewer x at = flat_fewer (λ s. range_of_entry l s (l.device s)) (λ s. range_of_entry k s (k.device s)) slots x (λ s there here. by s (l.device s) refl here) at
      where
        by : (s : ℕ) (o : Option ℕ) → l.device s ≡ o → IsIn x (range_of_entry l s o) → IsIn x (range_of_entry k s (k.device s))
        by s None at here = absurd here
        by s (Some d) at here = subst (λ o. IsIn x (range_of_entry k s o)) (sym (b.devices s d at)) (subst (λ n. IsIn x (Range 8 n (SlotEntry s) ∷ [])) (entry_stays s) here)

    pub devices_fewer : (x : Leased) → IsIn x (device_ranges h l) → IsIn x (device_ranges h k)
    unfolding device_ranges range_of_device
    devices_fewer x at = flat_fewer (λ s. range_of_device h s (l.device s)) (λ s. range_of_device h s (k.device s)) slots x (λ s there here. by s (l.device s) refl here) at
      where
        by : (s : ℕ) (o : Option ℕ) → l.device s ≡ o → IsIn x (range_of_device h s o) → IsIn x (range_of_device h s (k.device s))
        by s None at here = absurd here
        by s (Some d) at here = subst (λ o. IsIn x (range_of_device h s o)) (sym (b.devices s d at)) here

    tables_fewer : (x : Leased) → IsIn x (table_range h (l.register Erstba)) → IsIn x (table_range h (k.register Erstba))
    tables_fewer x at = subst (λ f. IsIn x (table_range h (f Erstba))) b.driver.register at

    pub ranges_fewer : (x : Leased) → IsIn x (open_ranges h l) → IsIn x (open_ranges h k)
    unfolding open_ranges
    ranges_fewer x at =
        both_fewer x _ _ _ _ (both_fewer x _ _ _ _ (both_fewer x _ _ _ _ (both_fewer x (segment_ranges h) _ (segment_ranges h) _ (λ y. y) (tables_fewer x)) (contexts_fewer x)) (entries_fewer x)) (devices_fewer x) at

    leases_fewer : (x : Leased) → IsIn x (open_leases h l) → IsIn x (open_leases h k)
    unfolding open_leases
    leases_fewer x at = both_fewer x _ _ _ _ (flat_fewer (open_on h l) (open_on h k) (driver_rings h) x (λ r there here. ring_fewer r there x here)) (ranges_fewer x) at

    pub still_free : (a : ℕ) → is_leased h k a ≡ false → is_leased h l a ≡ false
    unfolding is_leased
    still_free a free = none_fewer (covers h a 4) (open_leases h k) (open_leases h l) leases_fewer free

    pub not_the_controllers_behind : (a : ℕ) → is_the_controllers h k a ≡ false → is_the_controllers h l a ≡ false
    unfolding is_the_controllers
    not_the_controllers_behind a none =
        none_fewer (covers h a 4) (segment_ranges h ++ device_ranges h k) (segment_ranges h ++ device_ranges h l)
        (λ x at. both_fewer x (segment_ranges h) (device_ranges h l) (segment_ranges h) (device_ranges h k) (λ y. y) (devices_fewer x) at) none
