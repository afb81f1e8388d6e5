-- Lists of rings and their records, with one more at the end, or one taken out
use Rattle.trace_record.proofs.LowerLaws.{rules, ◌≡◌, ◌≢◌, ◌<◌, ◌∷◌, ◌++◌, ◌∙◌, ℕ, zero, suc, List, [], Bool, true, false, None, Some, arith, refl, sym, ap, inl, inr, length, slice_get, Ring, IsAmong, cases_Bool, cond, cond-true, cond-false}
use Rattle.trace_record.proofs.BaseWords.{◌⊎◌, Option, filter, find, none-some, remove, same_Some, slice_get_within}

pub at_push : {X : Type 0} (xs : List X) (y : X) (i : ℕ) (x : X) → slice_get (xs ++ y ∷ []) i ≡ Some x → (slice_get xs i ≡ Some x) ⊎ ((i ≡ length xs) × (y ≡ x))
at_push [] y zero x at = inr (refl, same_Some y x at)
at_push [] y (suc i) x at = absurd (none-some x at)
at_push (z ∷ zs) y zero x at = inl at
at_push (z ∷ zs) y (suc i) x at = elim (at_push zs y i x at) [ inl old ↦ inl old | inr new ↦ inr (ap suc new.0, new.1) ]

-- of two lists of one length each gets one more
pub both_push : {X Y : Type 0} (xs : List X) (ys : List Y) (x : X) (y : Y) (i : ℕ) (p : X) (q : Y) → length ys ≡ length xs → slice_get (xs ++ x ∷ []) i ≡ Some p → slice_get (ys ++ y ∷ []) i ≡ Some q →
    ((slice_get xs i ≡ Some p) × (slice_get ys i ≡ Some q)) ⊎ ((x ≡ p) × (y ≡ q))
both_push xs ys x y i p q long at there = search (rules, at_push, slice_get_within)

-- where it stood before n was taken out
abbrev pub place_before : ℕ → ℕ → ℕ
place_before zero i = suc i
place_before (suc n) zero = zero
place_before (suc n) (suc i) = suc (place_before n i)

pub another_place : (n i : ℕ) → place_before n i ≢ n
another_place zero i same = omega (arith, same)
another_place (suc n) zero same = omega (arith, same)
another_place (suc n) (suc i) same = another_place n i (let less : place_before n i ≡ n = omega (arith, same) in less)

pub at_remove : {X : Type 0} (xs : List X) (n i : ℕ) → n < length xs → slice_get (remove xs n) i ≡ slice_get xs (place_before n i)
at_remove [] n i low = absurd (omega arith)
at_remove (x ∷ xs) zero i low = refl
at_remove (x ∷ xs) (suc n) zero low = refl
at_remove (x ∷ xs) (suc n) (suc i) low = at_remove xs n i (omega arith)

keep_all : {X : Type 0} (keep : X → Bool) (xs : List X) → ((i : ℕ) (x : X) → slice_get xs i ≡ Some x → keep x ≡ true) → filter keep xs ≡ xs
keep_all keep [] all = refl
keep_all keep (x ∷ xs) all = cond-true (keep x) (x ∷ filter keep xs) (filter keep xs) (all 0 x refl) ∙ ap (λ ys. x ∷ ys) (keep_all keep xs (λ i y at. all (suc i) y at))

-- where all but the one at n are kept
pub kept_others : {X : Type 0} (keep : X → Bool) (xs : List X) (n : ℕ) (x : X) → slice_get xs n ≡ Some x → keep x ≡ false → ((i : ℕ) (y : X) → slice_get xs i ≡ Some y → i ≢ n → keep y ≡ true) → filter keep xs ≡ remove xs n
kept_others keep [] n x at goes others = absurd (none-some x at)
kept_others keep (z ∷ zs) zero x at goes others =
    cond-false (keep z) (z ∷ filter keep zs) (filter keep zs) (ap keep (same_Some z x at) ∙ goes) ∙ keep_all keep zs (λ i y here. others (suc i) y here (λ same. omega (arith, same)))
kept_others keep (z ∷ zs) (suc n) x at goes others =
    cond-true (keep z) (z ∷ filter keep zs) (filter keep zs) (others 0 z refl (λ same. omega (arith, same)))
    ∙ ap (λ ys. z ∷ ys) (kept_others keep zs n x at goes (λ i y here other. others (suc i) y here (λ same. other (omega (arith, same)))))

-- ---- what is found

-- behind one that fails
pub found_still : (p : Ring → Bool) (rs : List Ring) (r : Ring) → p r ≡ false → find p (rs ++ r ∷ []) ≡ find p rs
found_still p [] r fails = cond-false (p r) (Some r) None fails
found_still p (x ∷ rs) r fails = ap (λ o. cond (p x) (Some x) o) (found_still p rs r fails)

-- behind one that passes
pub found_new : (p : Ring → Bool) (rs : List Ring) (r : Ring) → find p rs ≡ None → p r ≡ true → find p (rs ++ r ∷ []) ≡ Some r
found_new p [] r none passes = cond-true (p r) (Some r) None passes
found_new p (x ∷ rs) r none passes = elim (cases_Bool (p x)) [
  | inl first ↦ absurd (none-some x (sym none ∙ cond-true (p x) (Some x) (find p rs) first))
  | inr fails ↦ cond-false (p x) (Some x) (find p (rs ++ r ∷ [])) fails ∙ found_new p rs r (sym (cond-false (p x) (Some x) (find p rs) fails) ∙ none) passes
]

first_fails : (p : Ring → Bool) (x : Ring) (o : Option Ring) → cond (p x) (Some x) o ≡ None → (p x ≡ false) × (o ≡ None)
first_fails p x o none = elim (cases_Bool (p x)) [
  | inl first ↦ absurd (none-some x (sym none ∙ cond-true (p x) (Some x) o first))
  | inr fails ↦ (fails, sym (cond-false (p x) (Some x) o fails) ∙ none)
]

-- where nothing is found all fail
pub none_passes : (p : Ring → Bool) (rs : List Ring) → find p rs ≡ None → (q : Ring) → IsAmong q rs → p q ≡ false
none_passes p [] none q among = absurd among
none_passes p (x ∷ rs) none q (inl same) = ap p (sym same) ∙ (first_fails p x (find p rs) none).0
none_passes p (x ∷ rs) none q (inr later) = none_passes p rs (first_fails p x (find p rs) none).1 q later

-- without some that fail
pub found_left : (p keep : Ring → Bool) (rs : List Ring) → ((q : Ring) → IsAmong q rs → keep q ≡ false → p q ≡ false) → find p (filter keep rs) ≡ find p rs
found_left p keep [] fail = refl
found_left p keep (x ∷ rs) fail =
    let rest = found_left p keep rs (λ q among gone. fail q (inr among) gone) in
    elim (cases_Bool (keep x)) [
      | inl kept ↦ ap (find p) (cond-true (keep x) (x ∷ filter keep rs) (filter keep rs) kept) ∙ ap (λ o. cond (p x) (Some x) o) rest
      | inr gone ↦ ap (find p) (cond-false (keep x) (x ∷ filter keep rs) (filter keep rs) gone) ∙ rest ∙ sym (cond-false (p x) (Some x) (find p rs) (fail x (inl refl) gone))
    ]

-- without all that pass
pub none_left : (p keep : Ring → Bool) (rs : List Ring) → ((q : Ring) → IsAmong q rs → keep q ≡ true → p q ≡ false) → find p (filter keep rs) ≡ None
none_left p keep [] pass = refl
none_left p keep (x ∷ rs) pass =
    let rest = none_left p keep rs (λ q among kept. pass q (inr among) kept) in
    elim (cases_Bool (keep x)) [
      | inl kept ↦ ap (find p) (cond-true (keep x) (x ∷ filter keep rs) (filter keep rs) kept) ∙ cond-false (p x) (Some x) (find p (filter keep rs)) (pass x (inl refl) kept) ∙ rest
      | inr gone ↦ ap (find p) (cond-false (keep x) (x ∷ filter keep rs) (filter keep rs) gone) ∙ rest
    ]
