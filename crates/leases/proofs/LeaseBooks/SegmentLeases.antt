-- The leases of an event ring's segments begin one by one in their order, and end one by one
use Rattle.leases.proofs.UpperLaws.{arith, ◌≡◌, ◌+◌, ◌<◌, ◌≤◌, ◌*◌, ◌&&◌, ◌||◌, ◌∷◌, ◌++◌, ◌∙◌, ℕ, zero, suc, true, false, List, [], Some, map, length, slice_get, get_or, take, take_all, take_more, list_any, any_append, sym, ap, refl, inl, inr, cases_Bool, false≢true, and_parts, leased_is, length-map, get_or-map, Segment, Lease, Leased, Range, EventSegment, is_among, same_leased, IsIn, among_is, Lent, ended_where, in_order, in_turn, is_unended, with_begun, as_lease, without_end, segment_lease, AllUnended, StandFrom, StandsAt, is_lent, segments_in_turn, Header, event_shape, segment_ranges, either_holds, map_map, sorted, still_lent, all_twice, none_over, over_alike, from_turn, is_segment, in_slice, all_ended, none_of, one_of, begun_twice, slice_get-get_or, segment_is}

abbrev any : Leased
any = Range 0 0 EventSegment

module _ (segments : List Segment) where
  abbrev ls : List Leased
  ls = segments_in_turn segments

  each_is : (i : ℕ) → i < length ls → is_segment (get_or ls i any) ≡ true
  each_is i low = segment_is segments (get_or ls i any) (from_turn (map (λ s. Range (16 * s.count) s.base EventSegment) segments) (get_or ls i any) (in_slice ls i (get_or ls i any) (slice_get-get_or ls i any low)))

  -- the leases, in their order, are of these
  pub leases_are : in_order (map segment_lease segments) ≡ map (λ l. as_lease 0 without_end l) ls
  unfolding segment_lease
  leases_are =
      ap in_order (sym (map_map (λ l. as_lease 0 without_end l) (λ (s : Segment). Range (16 * s.count) s.base EventSegment) segments))
      ∙ sorted 0 (λ l. without_end) (map (λ s. Range (16 * s.count) s.base EventSegment) segments)

  range_of : (l : Leased) → is_segment l ≡ true → Range (as_lease 0 without_end l).ring (as_lease 0 without_end l).pos EventSegment ≡ l
  unfolding as_lease
  range_of (Range n a EventSegment) is = refl
  range_of _ is = absurd (false≢true is)

  module _ (xs : List Lease) (are : xs ≡ in_order (map segment_lease segments)) (i : ℕ) (d : Lease) (low : i < length xs) where
    here : xs ≡ map (λ l. as_lease 0 without_end l) ls
    here = are ∙ leases_are

    within : i < length ls
    within = omega (arith, ap length here ∙ length-map ls (λ l. as_lease 0 without_end l), low)

    -- the range of the next of the leases
    pub next_range : Range (get_or xs i d).ring (get_or xs i d).pos EventSegment ≡ get_or ls i any
    next_range =
        let next : get_or xs i d ≡ as_lease 0 without_end (get_or ls i any) = rw here (get_or-map (λ l. as_lease 0 without_end l) ls i any d within) in
        rw next (range_of (get_or ls i any) (each_is i within))

    pub one_more : take (i + 1) ls ≡ take i ls ++ get_or ls i any ∷ []
    one_more = take_more ls i any within

    -- it begins behind those before it
    pub next_begun : (row : ℕ) (ts : List Lent) → with_begun row (with_begun row ts (take i ls)) (Range (get_or xs i d).ring (get_or xs i d).pos EventSegment ∷ []) ≡ with_begun row ts (take (i + 1) ls)
    next_begun row ts = begun_twice row ts (take i ls) (Range (get_or xs i d).ring (get_or xs i d).pos EventSegment ∷ []) ∙ rw (next_range, one_more) refl

-- what is lent stands in one place
one_place : (l : Leased) (a b n : ℕ) (ts : List Lent) → AllUnended (λ j m. m ≡ l → j ≡ a) n ts → AllUnended (λ j m. m ≡ l → j ≡ b) n ts →
    list_any (λ t. is_unended t && same_leased l t.leased) ts ≡ true → a ≡ b
one_place l a b n [] at by some = absurd (false≢true some)
one_place l a b n (t ∷ ts) at by some = elim (cases_Bool (is_unended t && same_leased l t.leased)) [
  | inl this ↦
      let parts = and_parts (is_unended t) (same_leased l t.leased) this in
      let same : t.leased ≡ l = sym (leased_is l t.leased parts.1) in
      sym (at.0 parts.0 same) ∙ by.0 parts.0 same
  | inr other ↦ one_place l a b (n + 1) ts at.1 by.1 (either_holds _ _ some other)
]

-- what is among the first of a list stands there
among_first : (i : ℕ) (ls : List Leased) (l : Leased) → IsIn l (take i ls) → (j : ℕ) × (j < i) × (slice_get ls j ≡ Some l)
among_first zero ls l at = absurd at
among_first (suc i) [] l at = absurd at
among_first (suc i) (m ∷ ls) l at = elim at [
  | inl here ↦ (0, omega arith, ap (λ x. Some x) (sym here))
  | inr later ↦ let found = among_first i ls l later in (suc found.0, omega (arith, found.1), found.2)
]

module _ (segments : List Segment) (xs : List Lease) (are : xs ≡ in_order (map segment_lease segments)) (i : ℕ) (d : Lease) (low : i < length xs) (row : ℕ) (ts : List Lent) (first : ℕ)
    (stand : StandFrom ts (segments_in_turn segments) first) where
  abbrev all : List Leased
  all = segments_in_turn segments

  abbrev next : Leased
  next = Range (get_or xs i d).ring (get_or xs i d).pos EventSegment

  -- those before it are over
  abbrev left : List Lent
  left = map (ended_where (is_among (take i all)) row) ts

  at_next : slice_get all i ≡ Some next
  at_next = slice_get-get_or all i any (within segments xs are i d low) ∙ ap (λ x. Some x) (sym (next_range segments xs are i d low))

  is_later : is_among (take i all) next ≡ false
  unfolding is_lent
  is_later = elim (cases_Bool (is_among (take i all) next)) [
    | inl among ↦
        let found = among_first i all next (among_is (take i all) next among) in
        let same : first + found.0 ≡ first + i = one_place next (first + found.0) (first + i) 0 ts (stand found.0 next found.2).0 (stand i next at_next).0 (stand i next at_next).1 in
        absurd (omega (arith, same, found.1))
    | inr apart ↦ apart
  ]

  pub next_stands : StandsAt left next (first + i)
  next_stands = all_ended (λ j m. m ≡ next → j ≡ first + i) (is_among (take i all)) row 0 ts (stand i next at_next).0

  pub next_lent : is_lent left next ≡ true
  next_lent = still_lent (is_among (take i all)) row ts next is_later (stand i next at_next).1

  with_next : (m : Leased) → (is_among (take i all) m || same_leased next m) ≡ is_among (take (i + 1) all) m
  unfolding is_among
  with_next m =
      ap (λ b. is_among (take i all) m || b) (one_of next m)
      ∙ sym (any_append (same_leased m) (take i all) (next ∷ []))
      ∙ ap (λ ms. is_among (take i all ++ ms ∷ []) m) (next_range segments xs are i d low)
      ∙ ap (λ ms. is_among ms m) (sym (one_more segments xs are i d low))

  -- it ends
  pub next_ended : map (ended_where (same_leased next) row) left ≡ map (ended_where (is_among (take (i + 1) all)) row) ts
  next_ended = all_twice (same_leased next) (is_among (take i all)) row ts ∙ over_alike (λ l. is_among (take i all) l || same_leased next l) (is_among (take (i + 1) all)) row ts with_next

-- of none nothing is over
pub none_yet : (row : ℕ) (ls : List Leased) (ts : List Lent) → map (ended_where (is_among (take 0 ls)) row) ts ≡ ts
none_yet row ls ts = none_over (is_among (take 0 ls)) row ts none_of

pub all_taken : (segments : List Segment) (xs : List Lease) (i : ℕ) → xs ≡ in_order (map segment_lease segments) → length xs ≤ i → take i (segments_in_turn segments) ≡ segments_in_turn segments
all_taken segments xs i are most = take_all i (segments_in_turn segments) (omega (arith, ap length (are ∙ leases_are segments) ∙ length-map (segments_in_turn segments) (λ l. as_lease 0 without_end l), most))

-- the segments of the event ring, in their order
pub turned_of : (h : Header) → segments_in_turn (event_shape h).segments ≡ in_turn (segment_ranges h)
unfolding segment_ranges
turned_of h = refl
