-- A segment is found by a search through how many data places lie before each, or through where each starts
use Rattle.segments.proofs.Words.{AreFirsts, AreStarts, IsIndex, IsLastOf, IsLastStart, IsSegmentOf, IsStart, SegmentIndex, Start, ◌≡◌, ◌+◌, ◌-◌, ◌<◌, ◌≤◌, ◌==◌, ◌∷◌, ◌∙◌, ℕ, suc, zero, true, false, List, [], Some, None, length, get_or, ap, sym, arith, leb-true, leb-false, eqb-true, leb, cases_lt, list_any, list_any_at, Any-from_list_any, get_or_from_slice_get, slice_get-get_or, get_or_append_left, get_or-append_right, length-append, ◌++◌, nat_tests, All, All-permutation, list_any-IsPermutation, IsPermutation, IsNonDecreasingBy, IsNonDecreasingBy-from_default, IsPartitionPoint, RingKind, Segment, rules, before}
use Rattle.segments.proofs.Blocks.{segment_at, before-zero}

-- more segments have no fewer data places before them
pub before_rises : (kind : RingKind) (ss : List Segment) (i j : ℕ) → i ≤ j → before kind ss i ≤ before kind ss j
before_rises kind [] i j l = omega arith
before_rises kind (s ∷ rest) zero j l = omega arith
before_rises kind (s ∷ rest) (suc i) zero l = absurd (omega arith)
before_rises kind (s ∷ rest) (suc i) (suc j) l = omega (arith, before_rises kind rest i j (omega arith))

module _ (kind : RingKind) (segments : List Segment) (firsts : List ℕ) (are : AreFirsts kind segments (length segments) firsts) where
  first_at : (j : ℕ) → j < length segments → get_or firsts j 0 ≡ before kind segments j
  first_at j below = are.each j below

  pub firsts_rise : IsNonDecreasingBy (λ first. first) firsts
  firsts_rise = IsNonDecreasingBy-from_default (λ (first : ℕ). first) firsts 0 (λ i j l below.
      search (rules, length, first_at, before_rises))

  module _ (place after : ℕ) (point : IsPartitionPoint (λ first. leb first place ≡ true) (λ first. leb first place ≡ false) firsts after)
      (bound : after ≤ length firsts) (within : place < before kind segments (length segments)) where
    some_before : 0 < after
    some_before = grind (arith, nat_tests, before-zero kind segments, point.1 0 0, first_at 0, are.many)

    -- the last segment with no more data places before it has the place
    pub segment_found : IsSegmentOf kind segments place (after - 1)
    segment_found = search (rules, some_before, length, get_or, leb-true, first_at, cases_lt, leb-false)

-- a ring of one segment has all its places there
pub only_segment : (kind : RingKind) (segments : List Segment) (firsts : List ℕ) (place : ℕ) → AreFirsts kind segments (length segments) firsts → length firsts ≡ 1 →
    place < before kind segments (length segments) → IsSegmentOf kind segments place 0
only_segment kind [] firsts place are one within = absurd (omega (arith, are.many))
only_segment kind (s ∷ []) firsts place are one within = record { number = omega arith; first = omega arith; end = within }
only_segment kind (s ∷ t ∷ rest) firsts place are one within = absurd (omega (arith, are.many))

-- one segment more
pub firsts_push : (kind : RingKind) (segments : List Segment) (n : ℕ) (firsts : List ℕ) (place : ℕ) → AreFirsts kind segments n firsts →
    place ≡ before kind segments n → AreFirsts kind segments (n + 1) (firsts ++ place ∷ [])
firsts_push kind segments n firsts place are next = search (rules, length-append, cases_lt, get_or_append_left, get_or-append_right, get_or)

-- ---- where segments start

same_number : (n : ℕ) → (n == n) ≡ true
same_number n = grind (arith, nat_tests)

pub all_starts : (segments : List Segment) (starts sorted : List Start) → AreStarts segments (length segments) starts → IsPermutation starts sorted → All (IsStart segments) sorted
all_starts segments starts sorted are moved = search (rules, All-permutation, length, are.many, are.each)

pub each_starts : (segments : List Segment) (starts sorted : List Start) → AreStarts segments (length segments) starts → IsPermutation starts sorted →
    (j : ℕ) → j < length segments → list_any (λ start. start.segment == j) sorted ≡ true
each_starts segments starts sorted are moved j below =
    let d : Start = record { base = 0; segment = 0 } in
    sym (list_any-IsPermutation (λ (start : Start). start.segment == j) starts sorted moved)
    ∙ list_any_at (λ (start : Start). start.segment == j) starts j d (omega (arith, are.many)) (ap (λ (start : Start). start.segment == j) (are.each j d below) ∙ same_number j)

-- the start of a segment stands among them
record Stands (segments : List Segment) (starts : List Start) (number : ℕ) : Type 0 where
  at : ℕ
  below : at < length starts
  base : (d : Start) → (get_or starts at d).base ≡ (segment_at segments number).base

module _ (kind : RingKind) (segments : List Segment) (index : SegmentIndex) (is : IsIndex kind segments index) where
  stands : (j : ℕ) → j < length segments → Stands segments index.starts.items j
  stands j below = search (rules, Any-from_list_any, get_or_from_slice_get, slice_get-get_or, eqb-true, segment_at, Any-from_list_any (λ (start : Start). start.segment == j) index.starts.items (is.each j below))

  module _ (address after : ℕ)
      (point : IsPartitionPoint (λ start. leb start.base address ≡ true) (λ start. leb start.base address ≡ false) index.starts.items after) where
    -- a segment that starts at or before the address stands before the border
    early : (j : ℕ) (below : j < length segments) → (segment_at segments j).base ≤ address → (stands j below).at < after
    early j below low =
        grind (arith, nat_tests, point.1 (stands j below).at (record { base = 0; segment = 0 }), (stands j below).below, (stands j below).base (record { base = 0; segment = 0 }))

    pub nothing_starts : after ≡ 0 → IsLastStart segments address None
    nothing_starts zero_of j below = grind (arith, early j below)

    pub last_found : 0 < after → after ≤ length index.starts.items → (d : Start) → IsLastStart segments address (Some (get_or index.starts.items (after - 1) d).segment)
    last_found some bound d =
        let here : IsStart segments (get_or index.starts.items (after - 1) d) = is.starts (after - 1) d (omega arith) in
        let low = leb-true (get_or index.starts.items (after - 1) d).base address (point.0 (after - 1) d (omega arith) (omega arith)) in
        record {
          number = here.number;
          start = omega (arith, here.base, low);
          last = λ j below before_it. grind (arith, is.sorted (stands j below).at (after - 1) d, early j below before_it, (stands j below).base d, here.base);
        }

  -- a start at or before the address, with the next one behind it, is that of the last segment
  pub last_here : (address at : ℕ) (xs : List Start) (d : Start) → xs ≡ index.starts.items → at < length xs → (get_or xs at d).base ≤ address →
      (at + 1 < length xs → address < (get_or xs (at + 1) d).base) → IsLastOf segments address (get_or xs at d).segment
  last_here address at xs d same inside low high =
      let here : IsStart segments (get_or xs at d) = rw same (is.starts at d (omega (arith, inside, ap length same))) in
      let long = ap length same in
      record {
        number = here.number;
        start = omega (arith, here.base, low);
        last = λ j below before_it.
            let s : Stands segments index.starts.items j = stands j below in
            grind (arith, same, cases_lt at s.at, is.sorted (at + 1) s.at d, is.sorted s.at at d, s.below, s.base d, here.base, long, high, ap (λ ys. (get_or ys at d).base) same, ap (λ ys. (get_or ys (at + 1) d).base) same);
      }
