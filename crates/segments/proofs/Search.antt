-- The one place of a list that passes a test
use Rattle.segments.proofs.Words.{◌≡◌, ◌<◌, ◌⊎◌, ℕ, Bool, true, false, List, length, nat_lt, Option, Some, None, position, arith, refl, inl, inr, get_or, lt-ltb, ltb-false, le-ltb, position_or_len, cond-true, cond-false, false_from_ne_true, position_or_len_is, fails_before_first, rules}

-- the first place that passes
pub position_is : {X : Type 0} (p : X → Bool) (xs : List X) (i : ℕ) (d : X) → i < length xs → p (get_or xs i d) ≡ true →
    ((k : ℕ) → k < i → p (get_or xs k d) ≡ false) → position p xs ≡ Some i
position_is p xs i d inside passes first = search (rules, position_or_len, position_or_len_is, cond-true, nat_lt, length, Some, None, lt-ltb)

-- the only place that passes
pub position_only : {X : Type 0} (p : X → Bool) (xs : List X) (i : ℕ) (d : X) → i < length xs → p (get_or xs i d) ≡ true →
    ((k : ℕ) → k < length xs → p (get_or xs k d) ≡ true → k ≡ i) → position p xs ≡ Some i
position_only p xs i d inside passes only = search (rules, position_is, false_from_ne_true, get_or)

-- no place passes
pub position_nowhere : {X : Type 0} (p : X → Bool) (xs : List X) (d : X) → ((k : ℕ) → k < length xs → p (get_or xs k d) ≡ false) → position p xs ≡ None
position_nowhere p xs d fails = search (rules, position_or_len_is, cond-false, nat_lt, le-ltb, position_or_len_is p xs (length xs) d (omega arith) fails (λ h. absurd (omega arith)))

-- where the search finds nothing, no place passes
pub position-None : {X : Type 0} (p : X → Bool) (xs : List X) (k : ℕ) (d : X) → position p xs ≡ None → k < length xs → p (get_or xs k d) ≡ false
position-None p xs k d none h = search (rules, position, length, get_or, nat_lt, cond-true, ltb-false, fails_before_first)

pub cases_option : {X : Type 0} (o : Option X) → (o ≡ None) ⊎ ((x : X) × (o ≡ Some x))
cases_option None = inl refl
cases_option (Some x) = inr (x, refl)
