-- The leases of an event ring's segments stand in their order from the index on at which they begin
use Rattle.leases.proofs.LowerLaws.{arith, ◌≡◌, ◌+◌, ◌∷◌, ◌++◌, ℕ, zero, suc, List, [], Some, map, length, slice_get, subst, refl, inl, inr, Segment, Header, event_shape, Leased, Range, EventSegment, segment_ranges, IsIn, RangeIndexes, Lent, begun_at, in_turn, with_begun, AllUnended, FindsRanges, IsRangeFound, from_map, from_turn, ◌*◌, Bool, true, false, false≢true}

-- the range is an event segment
abbrev pub is_segment : Leased → Bool
is_segment (Range n a EventSegment) = true
is_segment _ = false

pub segment_is : (segments : List Segment) (l : Leased) → IsIn l (map (λ s. Range (16 * s.count) s.base EventSegment) segments) → is_segment l ≡ true
segment_is segments l at = grind (arith, from_map (λ (s : Segment). Range (16 * s.count) s.base EventSegment) segments l at)

pub segments_are : (h : Header) (l : Leased) → IsIn l (segment_ranges h) → is_segment l ≡ true
unfolding segment_ranges
segments_are h = segment_is (event_shape h).segments

pub in_slice : {X : Type 0} (xs : List X) (j : ℕ) (x : X) → slice_get xs j ≡ Some x → IsIn x xs
in_slice [] j x at = grind arith
in_slice (y ∷ ys) zero x at = inl (grind arith)
in_slice (y ∷ ys) (suc j) x at = inr (in_slice ys j x at)

module _ (G : ℕ → Leased → Type 0) (row : ℕ) where
  -- what begins stands one behind the other
  all_at : (n : ℕ) (ls : List Leased) → ((j : ℕ) (l : Leased) → slice_get ls j ≡ Some l → G (n + j) l) → AllUnended G n (map (begun_at row) ls)
  unfolding begun_at
  all_at n [] each = tt
  all_at n (l ∷ ls) each = (
    λ u. subst (λ (i : ℕ). G i l) (let same : n + 0 ≡ n = omega arith in same) (each 0 l refl),
    all_at (n + 1) ls (λ j m at. subst (λ (i : ℕ). G i m) (let same : n + suc j ≡ n + 1 + j = omega arith in same) (each (suc j) m at)),
  )

  -- behind what stood before
  pub all_behind : (n : ℕ) (ts : List Lent) (ls : List Leased) → AllUnended G n ts → ((j : ℕ) (l : Leased) → slice_get ls j ≡ Some l → G (n + length ts + j) l) →
      AllUnended G n (ts ++ map (begun_at row) ls)
  all_behind n [] ls all each = all_at n ls (λ j l at. subst (λ (i : ℕ). G i l) (let same : n + 0 + j ≡ n + j = omega arith in same) (each j l at))
  all_behind n (t ∷ ts) ls all each =
      (all.0, all_behind (n + 1) ts ls all.1 (λ j l at. subst (λ (i : ℕ). G i l) (let same : n + length (t ∷ ts) + j ≡ n + 1 + length ts + j = omega arith in same) (each j l at)))

module _ (h : Header) (x : RangeIndexes) where
  of_segment : (j : ℕ) (l : Leased) → is_segment l ≡ true → slice_get (in_turn (segment_ranges h)) j ≡ Some l → IsRangeFound h x (x.segments + j) l
  of_segment j (Range n a EventSegment) is at = (j, refl, at)
  of_segment j _ is at = absurd (false≢true is)

  segment_found : (j : ℕ) (l : Leased) → slice_get (in_turn (segment_ranges h)) j ≡ Some l → IsRangeFound h x (x.segments + j) l
  segment_found j l at = of_segment j l (segments_are h l (from_turn (segment_ranges h) l (in_slice (in_turn (segment_ranges h)) j l at))) at

  -- they begin behind what is lent
  pub segments_begin : (row : ℕ) (ts : List Lent) → x.segments ≡ length ts → FindsRanges h ts x → FindsRanges h (with_begun row ts (in_turn (segment_ranges h))) x
  unfolding with_begun
  segments_begin row ts first found =
      all_behind (IsRangeFound h x) row 0 ts (in_turn (segment_ranges h)) found
      (λ j l at. subst (λ (i : ℕ). IsRangeFound h x i l) (let same : x.segments + j ≡ 0 + length ts + j = omega (arith, first) in same) (segment_found j l at))
