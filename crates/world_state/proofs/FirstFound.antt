-- The first number of a range that passes a test
use Rattle.world_state.proofs.Words.{range_with_len, cases_lt, cond-true, cond-false, Shape, place_count, ◌≡◌, ◌+◌, ◌<◌, ◌≤◌, ◌∙◌, ℕ, zero, suc, Bool, true, false, Some, None, find, unwrap_or, refl, ap, arith, inl, inr, first_at, is_place}

find_in_range : (test : ℕ → Bool) (from n q : ℕ) → from ≤ q → q < from + n → test q ≡ true → ((p : ℕ) → from ≤ p → p < q → test p ≡ false) →
    find test (range_with_len from n) ≡ Some q
find_in_range test from zero q low high passes fails = absurd (omega arith)
find_in_range test from (suc n) q low high passes fails =
    elim (cases_lt from q) [
      | inl before ↦
          cond-false (test from) (Some from) (find test (range_with_len (from + 1) n)) (fails from (omega arith) before)
          ∙ find_in_range test (from + 1) n q (omega arith) (omega arith) passes (λ p l h. fails p (omega arith) h)
      | inr here ↦ grind (arith, cond-true)
    ]

find_nowhere : (test : ℕ → Bool) (from n : ℕ) → ((p : ℕ) → from ≤ p → p < from + n → test p ≡ false) → find test (range_with_len from n) ≡ None
find_nowhere test from zero fails = refl
find_nowhere test from (suc n) fails = grind (arith, cond-false, find_nowhere test (from + 1) n (λ p l h. fails p (omega arith) (omega arith)))

pub first_at-found : (shape : Shape) (a from q : ℕ) → from ≤ q → q < from + place_count shape → is_place shape a q ≡ true →
    ((p : ℕ) → from ≤ p → p < q → is_place shape a p ≡ false) → first_at shape a from ≡ q
unfolding first_at
first_at-found shape a from q low high passes fails =
    ap (λ o. unwrap_or o from) (find_in_range (is_place shape a) from (place_count shape) q low high passes fails)

pub first_at-nowhere : (shape : Shape) (a from : ℕ) → ((p : ℕ) → from ≤ p → p < from + place_count shape → is_place shape a p ≡ false) → first_at shape a from ≡ from
unfolding first_at
first_at-nowhere shape a from fails = ap (λ o. unwrap_or o from) (find_nowhere (is_place shape a) from (place_count shape) fails)
