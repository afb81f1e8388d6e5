-- A test over what is left of a range
use Rattle.driver_rows.proofs.Words.{rules, ◌≡◌, ℕ, ◌+◌, ◌-◌, ◌<◌, ◌≤◌, Bool, true, false, zero, suc, ap, ◌∙◌, arith, inl, inr, ◌||◌, cases_lt, list_any, range_with_len}

-- it holds of a number from i to the end
unfoldable pub any_left : (ℕ → Bool) → ℕ → ℕ → Bool
any_left test i end = list_any test (range_with_len i (end - i))

module _ (test : ℕ → Bool) where
  one_less : (i end : ℕ) → i < end → any_left test i end ≡ (test i || any_left test (i + 1) end)
  unfolding any_left
  one_less i end h = search rules

  pub go_on : (i end : ℕ) → i < end → test i ≡ false → any_left test i end ≡ any_left test (i + 1) end
  go_on i end h fails = one_less i end h ∙ ap (λ b. b || any_left test (i + 1) end) fails

  pub found : (i end : ℕ) → i < end → test i ≡ true → any_left test i end ≡ true
  found i end h holds = one_less i end h ∙ ap (λ b. b || any_left test (i + 1) end) holds

  pub none_left : (i end : ℕ) → end ≤ i → any_left test i end ≡ false
  unfolding any_left
  none_left i end h = search rules

  -- it holds of none of those that are left out
  skip_by : (n i end : ℕ) → ((s : ℕ) → i ≤ s → s < i + n → s < end → test s ≡ false) → any_left test i end ≡ any_left test (i + n) end
  skip_by zero i end none = ap (λ j. any_left test j end) (let same : i ≡ i + 0 = omega arith in same)
  skip_by (suc n) i end none = search (rules, cases_lt, go_on, none_left, skip_by n (i + 1) end (λ s low high. none s (omega (arith, low)) (omega (arith, high))))

  pub skip : (i j end : ℕ) → i ≤ j → ((s : ℕ) → i ≤ s → s < j → s < end → test s ≡ false) → any_left test i end ≡ any_left test j end
  skip i j end low none =
      let there : i + (j - i) ≡ j = omega (arith, low) in
      skip_by (j - i) i end (λ s a b. none s a (omega (arith, b, there))) ∙ ap (λ n. any_left test n end) there

  pub none_behind : (i end : ℕ) → ((s : ℕ) → i ≤ s → s < end → test s ≡ false) → any_left test i end ≡ false
  none_behind i end none = elim (cases_lt i end) [
    | inl below ↦ skip i end end (omega (arith, below)) (λ s a b c. none s a c) ∙ none_left end end (omega arith)
    | inr past ↦ none_left i end past
  ]
