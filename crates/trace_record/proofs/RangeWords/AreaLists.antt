-- Areas by their first addresses, in rising order
use Rattle.trace_record.proofs.LowerLaws.{rules, ◌≡◌, ◌+◌, ◌-◌, ◌<◌, ◌≤◌, ◌∷◌, ◌++◌, ◌∙◌, ℕ, List, true, false, refl, arith, length, get_or, inl, inr, sym, leb, nat_lt, Err, nat_cmp, list_any, insert, remove, IsNonDecreasingBy, IsPartitionPoint, IsPermutation, IsBinarySearchResult, cases_Bool, nat_tests, get_or_default, list_any_at, Contains-append_right, length-remove, get_or-remove_below, get_or-remove_above, IsNonDecreasingBy-insert, IsPermutation-insert, IsPermutation-cons, IsPermutation-middle, IsPermutation-trans, Contains-permutation, searched, overlap, any_none}

-- those that start before an end are the first ones; of them only the last can touch
module _ (items : List ℕ) (sorted : IsNonDecreasingBy (λ s. s) items) (from len n after : ℕ)
    (point : IsPartitionPoint (λ s. nat_lt s (from + len) ≡ true) (λ s. nat_lt s (from + len) ≡ false) items after) where
  far_away : (k d : ℕ) → k < length items → after ≤ k → overlap from len (get_or items k d) n ≡ false
  far_away k d below late = let far = point.1 k d late below in grind (arith, nat_tests, far)

  pub none_touches : after ≡ 0 → list_any (λ a. overlap from len a n) items ≡ false
  none_touches none = any_none (λ a. overlap from len a n) items (λ k d below. far_away k d below (omega arith))

  pub last_touches : 0 < after → after ≤ length items → nat_lt from (get_or items (after - 1) 0 + n) ≡ list_any (λ a. overlap from len a n) items
  last_touches some bound = elim (cases_Bool (nat_lt from (get_or items (after - 1) 0 + n))) [
    | inl near_end ↦ search (rules, list_any_at, overlap, nat_tests)
    | inr past ↦
        past ∙ sym (any_none (λ a. overlap from len a n) items (λ k d below. grind (arith, nat_tests, far_away k d below, past, sorted k (after - 1) d, get_or_default items (after - 1) d 0)))
  ]

pub none_among : (items : List ℕ) (from len n : ℕ) → length items ≡ 0 → list_any (λ a. overlap from len a n) items ≡ false
none_among items from len n none = any_none (λ a. overlap from len a n) items (λ k d below. absurd (omega (arith, none, below)))

-- none touches bytes that lie before the first one, or behind the last
module _ (items : List ℕ) (sorted : IsNonDecreasingBy (λ s. s) items) (from len n : ℕ) where
  pub none_before : nat_lt (get_or items 0 0) (from + len) ≡ false → list_any (λ a. overlap from len a n) items ≡ false
  none_before early = any_none (λ a. overlap from len a n) items (λ k d below. grind (arith, nat_tests, early, sorted 0 k d, get_or_default items 0 d 0))

  pub none_behind : nat_lt from (get_or items (length items - 1) 0 + n) ≡ false → list_any (λ a. overlap from len a n) items ≡ false
  none_behind late =
      any_none (λ a. overlap from len a n) items (λ k d below. grind (arith, nat_tests, late, sorted k (length items - 1) d, get_or_default items (length items - 1) d 0))

-- one more, behind those that start before it
module _ (items : List ℕ) (start after : ℕ) where
  pub added_sorted : IsNonDecreasingBy (λ s. s) items → after ≤ length items → IsPartitionPoint (λ s. leb s start ≡ true) (λ s. leb s start ≡ false) items after →
      IsNonDecreasingBy (λ s. s) (insert items after start)
  added_sorted sorted bound point =
      IsNonDecreasingBy-insert (λ s. s) items after start sorted bound (λ k d below. grind (arith, nat_tests, point.0 k d)) (λ k d late below. grind (arith, nat_tests, point.1 k d))

  pub added_all : (xs ys : List ℕ) → IsPermutation (xs ++ ys) items → IsPermutation (xs ++ start ∷ ys) (insert items after start)
  added_all xs ys all =
      IsPermutation-trans (xs ++ start ∷ ys) (start ∷ (xs ++ ys)) (insert items after start) (IsPermutation-middle xs start ys)
      (IsPermutation-trans (start ∷ (xs ++ ys)) (start ∷ items) (insert items after start) (IsPermutation-cons start (xs ++ ys) items all) (IsPermutation-insert items after start))

-- one less
pub removed_sorted : (items : List ℕ) (i : ℕ) → i < length items → IsNonDecreasingBy (λ s. s) items → IsNonDecreasingBy (λ s. s) (remove items i)
removed_sorted items i within sorted = search (rules, length-remove, get_or-remove_below, get_or-remove_above)

-- what stands there is found
pub not_missed : (items xs ys : List ℕ) (start i : ℕ) → IsBinarySearchResult (λ y. nat_cmp y start) items (Err i) → IsNonDecreasingBy (λ s. s) items → IsPermutation (xs ++ start ∷ ys) items → ⊥
not_missed items xs ys start i missed sorted all =
    search (rules, Contains-permutation (xs ++ start ∷ ys) items start all (Contains-append_right xs (start ∷ ys) start (0, omega arith, refl)), searched, get_or_default)
