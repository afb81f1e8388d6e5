-- Elements that are put into a list behind its first ones: where the others stand then
use Rattle.segments.proofs.Words.{◌≡◌, ◌≢◌, ◌+◌, ◌-◌, ◌<◌, ◌≤◌, ◌++◌, ◌⊎◌, if◌then◌else◌, ℕ, suc, zero, List, [], length, nat_lt, arith, ap, refl, inl, inr, get_or, rules, cases_lt, get_or_append_left, get_or-append_right, length-append, length-map, map, nat_tests}
use Rattle.std.proofs.lemmas.List.{map-append}

-- where element i of a list stands, once n elements are put in behind its first a
abbrev pub moved : ℕ → ℕ → ℕ → ℕ
moved a n i = if nat_lt i a then i else i + n

pub moved_low : (a n i : ℕ) → i < a → moved a n i ≡ i
moved_low a n i h = grind (arith, nat_tests)

pub moved_high : (a n i : ℕ) → a ≤ i → moved a n i ≡ i + n
moved_high a n i h = grind (arith, nat_tests)

pub moved_within : (a n i m : ℕ) → i < m → moved a n i < m + n
moved_within a n i m h = grind (arith, nat_tests)

pub moved_other : (a n i : ℕ) → i ≢ a → moved (a + 1) n i ≡ moved a n i
moved_other a n i other = grind (arith, nat_tests)

pub moved_next : (a n i : ℕ) → moved a n i + 1 ≡ moved (a + 1) n (i + 1)
moved_next a n i = grind (arith, nat_tests)

pub moved_below : (a n i m : ℕ) → a ≤ m → moved a n i < m + n → i < m
moved_below a n i m le h = grind (arith, nat_tests)

pub moved_same : (a n i k : ℕ) → moved a n i ≡ moved a n k → i ≡ k
moved_same a n i k e = grind (arith, nat_tests)

-- none of them stands among the n new ones
pub moved_apart : (a n i : ℕ) → a ≤ moved a n i → moved a n i < a + n → ⊥
moved_apart a n i low high = grind (arith, nat_tests)

-- each place is one of these, or one of the n new ones
pub moved_or_new : (a n k : ℕ) → ((i : ℕ) × (moved a n i ≡ k)) ⊎ ((a ≤ k) × (k < a + n))
moved_or_new a n k = elim (cases_lt k a) [
  | inl low ↦ inl (k, moved_low a n k low)
  | inr high ↦ elim (cases_lt k (a + n)) [
    | inl new ↦ inr (high, new)
    | inr behind ↦ inl (k - n, rw (moved_high a n (k - n) (omega arith)) (omega arith))
  ]
]

-- it is the element that it was
pub get_or-put_in : {X : Type 0} (xs ys zs : List X) (i : ℕ) (d : X) → get_or (xs ++ ys ++ zs) (moved (length xs) (length ys) i) d ≡ get_or (xs ++ zs) i d
get_or-put_in xs ys zs i d = search (rules, length-append, cases_lt, moved_low, moved_high, get_or_append_left, get_or-append_right)

pub map-put_in : {X Y : Type 0} (f : X → Y) (xs ys zs : List X) (i : ℕ) (d : Y) →
    get_or (map f (xs ++ ys ++ zs)) (moved (length xs) (length ys) i) d ≡ get_or (map f (xs ++ zs)) i d
map-put_in f xs ys zs i d =
    rw (map-append f (xs ++ ys) zs, map-append f xs ys, map-append f xs zs, ← length-map xs f, ← length-map ys f) (get_or-put_in (map f xs) (map f ys) (map f zs) i d)

-- and the new ones stand between
pub get_or-in_between : {X : Type 0} (xs ys zs : List X) (k : ℕ) (d : X) → k < length ys → get_or (xs ++ ys ++ zs) (length xs + k) d ≡ get_or ys k d
get_or-in_between xs ys zs k d h = search (rules, length-append, get_or_append_left, get_or-append_right)
