-- Elements of lists, and lists of leases: what of one list isn't in another
use Rattle.ownership_rules.proofs.Words.{rules, arith, ◌≡◌, ◌==◌, ◌&&◌, ◌||◌, ◌⊎◌, ◌∷◌, ◌∙◌, ℕ, Bool, true, not, List, [], filter, sym, ap, refl, inl, inr, eqb-true, eq-eqb, list_any, cases_Bool, false≢true, and_parts, and_from, or_left, or_right, or_cases, Use, Leased, is_among, same_leased, same_use}

-- two tests that imply each other are equal
pub both_ways : (a b : Bool) → (a ≡ true → b ≡ true) → (b ≡ true → a ≡ true) → a ≡ b
both_ways a b f g = grind (arith, false≢true)

abbrev pub IsIn : {X : Type 0} → X → List X → Type 0
IsIn x [] = ⊥
IsIn x (y ∷ ys) = (x ≡ y) ⊎ IsIn x ys

-- an element that passes
pub some_of : {X : Type 0} (p : X → Bool) (xs : List X) → list_any p xs ≡ true → (x : X) × IsIn x xs × (p x ≡ true)
some_of p [] h = absurd (false≢true h)
some_of p (x ∷ xs) h =
    elim (or_cases (p x) (list_any p xs) h) [
      | inl here ↦ (x, inl refl, here)
      | inr later ↦ let found = some_of p xs later in (found.0, inr found.1, found.2)
    ]

pub any_of : {X : Type 0} (p : X → Bool) (xs : List X) (x : X) → IsIn x xs → p x ≡ true → list_any p xs ≡ true
any_of p [] x at h = absurd at
any_of p (y ∷ ys) x at h =
    elim at [
      | inl here ↦ or_left (p y) (list_any p ys) (sym (ap p here) ∙ h)
      | inr later ↦ or_right (p y) (list_any p ys) (any_of p ys x later h)
    ]

pub in_filter : {X : Type 0} (p : X → Bool) (xs : List X) (x : X) → IsIn x xs → p x ≡ true → IsIn x (filter p xs)
in_filter p [] x at h = absurd at
in_filter {X} p (y ∷ ys) x at h =
    elim (cases_Bool (p y)) [
      | inl kept ↦
          let rest : IsIn x (y ∷ filter p ys) = elim at [ inl here ↦ inl here | inr later ↦ inr (in_filter p ys x later h) ] in
          rw kept rest
      | inr dropped ↦
          let rest : IsIn x (filter p ys) = elim at [ inl here ↦ absurd (false≢true (sym dropped ∙ sym (ap p here) ∙ h)) | inr later ↦ in_filter p ys x later h ] in
          rw dropped rest
    ]

pub from_filter : {X : Type 0} (p : X → Bool) (xs : List X) (x : X) → IsIn x (filter p xs) → IsIn x xs × (p x ≡ true)
from_filter p [] x at = absurd at
from_filter {X} p (y ∷ ys) x at =
    elim (cases_Bool (p y)) [
      | inl kept ↦
          let there : IsIn x (y ∷ filter p ys) = rw kept at at in
          elim there [
            | inl here ↦ (inl here, ap p here ∙ kept)
            | inr later ↦ let found = from_filter p ys x later in (inr found.0, found.1)
          ]
      | inr dropped ↦
          let there : IsIn x (filter p ys) = rw dropped at at in
          let found = from_filter p ys x there in
          (inr found.0, found.1)
    ]

-- ---- leases

number_is : (m n p q : ℕ) → ((m == n) && (p == q)) ≡ true → (m ≡ n) × (p ≡ q)
number_is m n p q h = let parts = and_parts (m == n) (p == q) h in (eqb-true m n parts.0, eqb-true p q parts.1)

use_is : (a b : Use) → same_use a b ≡ true → a ≡ b
use_is a b h = grind (arith, false≢true, eqb-true)

-- leases that are told to be the same are
pub leased_is : (a b : Leased) → same_leased a b ≡ true → a ≡ b
leased_is a b h = grind (arith, number_is, false≢true, and_parts, use_is)

pub same_number : (n : ℕ) → (n == n) ≡ true
same_number n = eq-eqb n n refl

use_itself : (a : Use) → same_use a a ≡ true
use_itself a = grind (arith, same_number)

pub leased_itself : (a : Leased) → same_leased a a ≡ true
leased_itself a = grind (arith, and_from, same_number, use_itself)

pub among_is : (xs : List Leased) (l : Leased) → is_among xs l ≡ true → IsIn l xs
unfolding is_among
among_is xs l h = search (rules, some_of, leased_is, some_of (same_leased l) xs h)

pub in_among : (xs : List Leased) (l : Leased) → IsIn l xs → is_among xs l ≡ true
unfolding is_among
in_among xs l at = any_of (same_leased l) xs l at (leased_itself l)

-- what passes is new, or was there before
pub new_or_old : (p : Leased → Bool) (xs ys : List Leased) →
    (list_any p (filter (λ l. not (is_among xs l)) ys) || list_any (λ l. is_among ys l && p l) xs) ≡ list_any p ys
new_or_old p xs ys = grind (arith, both_ways, or_cases, some_of, any_of, from_filter, and_parts, among_is, cases_Bool, or_right, and_from, in_among, or_left, in_filter)
