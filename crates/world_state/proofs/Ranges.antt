-- Whether a number of a range passes a test
use Rattle.world_state.proofs.Words.{list_any, range_with_len, cases_lt, ◌≡◌, ◌+◌, ◌<◌, ◌≤◌, ◌||◌, ◌∙◌, ℕ, zero, suc, Bool, true, false, ap, refl, arith, inl, inr}

or_true : (b : Bool) → (b || true) ≡ true
or_true b = grind arith

pub any_in_range : (test : ℕ → Bool) (from n q : ℕ) → from ≤ q → q < from + n → test q ≡ true → list_any test (range_with_len from n) ≡ true
any_in_range test from zero q low high passes = absurd (omega arith)
any_in_range test from (suc n) q low high passes =
    elim (cases_lt from q) [
      | inl before ↦ ap (λ b. test from || b) (any_in_range test (from + 1) n q (omega arith) (omega arith) passes) ∙ or_true (test from)
      | inr here ↦ grind arith
    ]

pub none_in_range : (test : ℕ → Bool) (from n : ℕ) → ((p : ℕ) → from ≤ p → p < from + n → test p ≡ false) → list_any test (range_with_len from n) ≡ false
none_in_range test from zero fails = refl
none_in_range test from (suc n) fails = grind (arith, none_in_range test (from + 1) n (λ p l h. fails p (omega arith) (omega arith)))
