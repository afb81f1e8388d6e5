-- Lists in which each number stands equally often are the same but for their order
use Rattle.trace_record.proofs.BaseWords.{◌≡◌, ◌<◌, ◌∷◌, ◌++◌, ℕ, List, [], arith, length, get_or, suc, inl, inr, sym, cond, eqb, sum_by, remove, IsPermutation, cases_eq, nat_tests, sum_by-cons, IsPermutation-refl, IsPermutation-cons, IsPermutation-sym, IsPermutation-trans, IsPermutation-remove, IsPermutation-middle, sum_by-IsPermutation}

-- 1 for v, and 0 for another number
abbrev one_for : ℕ → ℕ → ℕ
one_for v y = cond (eqb y v) 1 0

-- how often v stands in a list
abbrev count : ℕ → List ℕ → ℕ
count v xs = sum_by (one_for v) xs

-- where a number stands in a list
record Place (v : ℕ) (xs : List ℕ) : Type 0 where
  index : ℕ
  within : index < length xs
  is : v ≡ get_or xs index v

one : (v : ℕ) → one_for v v ≡ 1
one v = grind (arith, nat_tests)

find_one : (v : ℕ) (xs : List ℕ) → 0 < count v xs → Place v xs
find_one v [] some = absurd (omega arith)
find_one v (x ∷ xs) some = elim (cases_eq x v) [
  | inl same ↦ record { index = 0; within = omega arith; is = sym same }
  | inr other ↦
      let there = find_one v xs (grind (arith, nat_tests, sum_by-cons (one_for v) x xs)) in
      record { index = suc there.index; within = omega (arith, there.within); is = there.is }
]

same_counts : (xs ys : List ℕ) → ((v : ℕ) → count v xs ≡ count v ys) → IsPermutation xs ys
same_counts [] [] same = IsPermutation-refl []
same_counts [] (y ∷ ys) same = absurd (omega (arith, same y, sum_by-cons (one_for y) y ys, one y))
same_counts (x ∷ xs) ys same =
    let place = find_one x ys (omega (arith, same x, sum_by-cons (one_for x) x xs, one x)) in
    let out = IsPermutation-remove ys place.index x place.within place.is in
    let rest = same_counts xs (remove ys place.index) (λ v. omega (
      arith,
      same v,
      sum_by-cons (one_for v) x xs,
      sum_by-cons (one_for v) x (remove ys place.index),
      sum_by-IsPermutation (one_for v) ys (x ∷ remove ys place.index) out,
    )) in
    IsPermutation-trans (x ∷ xs) (x ∷ remove ys place.index) ys (IsPermutation-cons x xs (remove ys place.index) rest) (IsPermutation-sym ys (x ∷ remove ys place.index) out)

-- what two such lists both begin with
without_first : (x : ℕ) (xs ys : List ℕ) → IsPermutation (x ∷ xs) (x ∷ ys) → IsPermutation xs ys
without_first x xs ys all =
    same_counts xs ys (λ v. omega (arith, sum_by-cons (one_for v) x xs, sum_by-cons (one_for v) x ys, sum_by-IsPermutation (one_for v) (x ∷ xs) (x ∷ ys) all))

-- a number is taken out of both
pub without : (x i : ℕ) (xs ys items : List ℕ) → IsPermutation (xs ++ x ∷ ys) items → i < length items → x ≡ get_or items i x → IsPermutation (xs ++ ys) (remove items i)
without x i xs ys items all within is =
    without_first x (xs ++ ys) (remove items i)
    (IsPermutation-trans (x ∷ (xs ++ ys)) (xs ++ x ∷ ys) (x ∷ remove items i)
    (IsPermutation-sym (xs ++ x ∷ ys) (x ∷ (xs ++ ys)) (IsPermutation-middle xs x ys))
    (IsPermutation-trans (xs ++ x ∷ ys) items (x ∷ remove items i) all (IsPermutation-remove items i x within is)))
