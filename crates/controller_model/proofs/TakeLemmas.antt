-- Which take an event names
use Rattle.controller_model.proofs.Words.{nat_tests, arith, ◌≡◌, ◌+◌, ◌-◌, ◌<◌, ◌==◌, ◌∷◌, ◌∙◌, ℕ, suc, true, false, List, [], length, None, Some, nat_lt, position, position_or_len, slice_index_or, refl, ap, false≢true, cond-true, cond-false, ne_eqb, Block, has_event_data, Take, names, names_last}

module _ (e : Block) where
  -- none is the last of no takes
  pub none_last : (n : ℕ) (xs : List Take) → n ≡ length xs → (0 < n → false ≡ true) → false ≡ names_last e xs
  unfolding names_last
  none_last n [] many none = refl
  none_last n (x ∷ xs) many none = absurd (false≢true (none (omega arith)))

  -- by an address the last alone is asked
  pub last_by_address : (x : Take) (n : ℕ) (xs : List Take) → has_event_data e ≡ false → n ≡ length xs → 0 < n → x ≡ slice_index_or xs (n - 1) x → names e x ≡ names_last e xs
  unfolding names_last
  last_by_address x n [] none many some at = absurd (omega arith)
  last_by_address x n (y ∷ []) none many some at = grind (arith, slice_index_or)
  last_by_address x n (y ∷ z ∷ zs) none many some at =
      let later : slice_index_or (y ∷ z ∷ zs) (n - 1) x ≡ slice_index_or (z ∷ zs) (n - 1 - 1) x = ap (λ k. slice_index_or (y ∷ z ∷ zs) k x) (let e : n - 1 ≡ suc (n - 1 - 1) = omega arith in e) in
      rw none (last_by_address x (n - 1) (z ∷ zs) none (omega arith) (omega arith) (at ∙ later))

  -- by a value the first that is named has to be the last
  last_is_first : (xs : List Take) → has_event_data e ≡ true → names_last e xs ≡ (position_or_len (names e) xs + 1 == length xs)
  unfolding names_last
  last_is_first [] has = refl
  last_is_first (x ∷ []) has = grind arith
  last_is_first (x ∷ y ∷ ys) has = grind (arith, nat_tests, last_is_first (y ∷ ys) has)

  pub none_by_data : (xs : List Take) → has_event_data e ≡ true → position (names e) xs ≡ None → false ≡ names_last e xs
  none_by_data xs has none = grind (arith, nat_lt, cond-true, cond-false, ne_eqb, last_is_first xs has)

  pub last_by_data : (n : ℕ) (xs : List Take) → has_event_data e ≡ true → position (names e) xs ≡ Some n → (n + 1 == length xs) ≡ names_last e xs
  last_by_data n xs has some = grind (arith, nat_lt, cond-true, cond-false, last_is_first xs has)
