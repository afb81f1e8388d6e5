-- The leases of the event ring's segments that are lent stand one behind the other: no segment stands twice in an allowed shape
use Rattle.leases.proofs.MiddleLaws.{arith, not, ◌≡◌, ◌+◌, ◌*◌, ◌<◌, ◌∷◌, ◌∙◌, ℕ, zero, suc, true, List, [], Some, map, slice_get, refl, sym, ap, subst, inl, inr, cases_Bool, false≢true, and_parts, not-true, list_any, IsShape, Shape, Segment, Header, Known, event_shape, Leased, Range, EventSegment, open_leases, segment_ranges, IsIn, in_among, IsInStep, RangeIndexes, Lent, FindsRanges, IsRangeFound, StandFrom, in_turn, precedes, with_leased, segments_in_turn, any_of, lt-ltb, same_Some, none-some, are_apart, segments_overlap, overlap, segment_some, from_map, segment_open, from_turn, is_segment, in_slice, all_anew, segments_are, from_with}

-- ---- no element stands twice

abbrev NoRepeats : List Leased → Type 0
NoRepeats [] = Unit {0}
NoRepeats (l ∷ ls) = (IsIn l ls → ⊥) × NoRepeats ls

one_index : (ls : List Leased) → NoRepeats ls → (i j : ℕ) (l : Leased) → slice_get ls i ≡ Some l → slice_get ls j ≡ Some l → i ≡ j
one_index [] once i j l at by = absurd (none-some l at)
one_index (m ∷ ls) once zero zero l at by = refl
one_index (m ∷ ls) once zero (suc j) l at by = absurd (once.0 (subst (λ x. IsIn x ls) (sym (same_Some m l at)) (in_slice ls j l by)))
one_index (m ∷ ls) once (suc i) zero l at by = absurd (once.0 (subst (λ x. IsIn x ls) (sym (same_Some m l by)) (in_slice ls i l at)))
one_index (m ∷ ls) once (suc i) (suc j) l at by = ap (λ n. suc n) (one_index ls once.1 i j l at by)

once_with : (l : Leased) (ls : List Leased) → (IsIn l ls → ⊥) → NoRepeats ls → NoRepeats (with_leased l ls)
unfolding with_leased
once_with l [] none once = ((λ at. at), tt)
once_with l (m ∷ rest) none once = elim (cases_Bool (precedes l m)) [
  | inl first ↦ rw first (none, once)
  | inr later ↦ rw later (
    (λ at. elim (from_with l rest m at) [ inl same ↦ none (inl (sym same)) | inr there ↦ once.0 there ]),
    once_with l rest (λ at. none (inr at)) once.1,
  )
]

once_turned : (ls : List Leased) → NoRepeats ls → NoRepeats (in_turn ls)
unfolding in_turn
once_turned [] once = tt
once_turned (l ∷ ls) once = once_with l (in_turn ls) (λ at. once.0 (from_turn ls l at)) (once_turned ls once.1)

-- ---- segments

abbrev range_of : Segment → Leased
range_of s = Range (16 * s.count) s.base EventSegment

overlap_itself : (a n : ℕ) → 0 < n → overlap a n a n ≡ true
overlap_itself a n some = grind (arith, lt-ltb)

same_overlap : (s t : Segment) → 0 < s.count → range_of s ≡ range_of t → segments_overlap s t ≡ true
same_overlap s t some same = grind (arith, overlap_itself, Range)

apart_once : (segments : List Segment) → ((s : Segment) → IsIn s segments → 0 < s.count) → are_apart segments ≡ true → NoRepeats (map range_of segments)
apart_once [] some apart = tt
apart_once (s ∷ rest) some apart =
    let parts = and_parts (not (list_any (segments_overlap s) rest)) (are_apart rest) apart in (
      λ at. let found = from_map range_of rest (range_of s) at in
          false≢true (sym (not-true (list_any (segments_overlap s) rest) parts.0) ∙ any_of (segments_overlap s) rest found.0 found.1 (same_overlap s found.0 (some s (inl refl)) found.2)),
      apart_once rest (λ t at. some t (inr at)) parts.1,
    )

shape_apart : (shape : Shape) → IsShape shape → are_apart shape.segments ≡ true
shape_apart shape is = (and_parts _ (are_apart shape.segments) is).1

once : (shape : Shape) → IsShape shape → NoRepeats (segments_in_turn shape.segments)
once shape is = once_turned (map range_of shape.segments) (apart_once shape.segments (segment_some shape is) (shape_apart shape is))

module _ (h : Header) (k : Known) (allowed : IsShape (event_shape h)) (ts : List Lent) (x : RangeIndexes) where
  abbrev turned : List Leased
  turned = in_turn (segment_ranges h)

  turned_once : NoRepeats turned
  unfolding segment_ranges
  turned_once = once (event_shape h) allowed

  there : (j : ℕ) (l : Leased) → slice_get turned j ≡ Some l → IsIn l (segment_ranges h)
  there j l at = from_turn (segment_ranges h) l (in_slice turned j l at)

  found_at : (j : ℕ) (l : Leased) → is_segment l ≡ true → slice_get turned j ≡ Some l → (i : ℕ) → IsRangeFound h x i l → i ≡ x.segments + j
  found_at j (Range n a EventSegment) segment at i found = found.1 ∙ ap (λ m. x.segments + m) (one_index turned turned_once found.0 j (Range n a EventSegment) found.2 at)
  found_at j _ segment at i found = absurd (false≢true segment)

  -- each is lent, and found in its place
  pub segments_stand : IsInStep h k ts → FindsRanges h ts x → StandFrom ts turned x.segments
  segments_stand step found j l at = (
    all_anew (IsRangeFound h x) (λ i m. m ≡ l → i ≡ x.segments + j) 0 ts
        (λ i m finds same. found_at j l (segments_are h l (there j l at)) at i (subst (IsRangeFound h x i) same finds)) found,
    step.lent l (in_among (open_leases h k) l (segment_open h k l (there j l at))),
  )
