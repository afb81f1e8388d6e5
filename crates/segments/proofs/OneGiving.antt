-- A word gives one position or one crossing at most: a place has one due position, a Link one due crossing
use Rattle.segments.proofs.LowerLaws.{rules, ◌≡◌, ◌+◌, ◌≤◌, ◌⊎◌, ◌∷◌, ℕ, suc, zero, not, Bool, true, [], filter, arith, refl, inl, range_with_len, cases_Bool, cond-true, cond-false, and_parts, false_from_ne_true, Spot, Shape, place_count, IsShape, RingView, floor_number, gives, due_positions, positions_given, gives_is}
use Rattle.segments.proofs.Positions.{same_position_near}

module _ (shape : Shape) (is : IsShape shape) (floor : Spot) (a w : ℕ) where
  pub gives_one : (p q : ℕ) → gives shape floor p a w ≡ true → gives shape floor q a w ≡ true → p ≡ q
  gives_one p q first second = search (rules, gives_is, same_position_near)

-- ---- as lists

none_from : (test : ℕ → Bool) (a n : ℕ) → ((q : ℕ) → a ≤ q → test q ≡ true → ⊥) → filter test (range_with_len a n) ≡ []
none_from test a zero none = refl
none_from test a (suc n) none = search (rules, cond-false, false_from_ne_true, none_from test (a + 1) n (λ q h. none q (omega arith)))

-- of a range at most one number passes
one_from : (test : ℕ → Bool) (a n : ℕ) → ((p q : ℕ) → test p ≡ true → test q ≡ true → p ≡ q) →
    (filter test (range_with_len a n) ≡ []) ⊎ ((p : ℕ) × (filter test (range_with_len a n) ≡ p ∷ []))
one_from test a zero one = inl refl
one_from test a (suc n) one = search (rules, cases_Bool, cond-true, filter, range_with_len, none_from, cond-false, one_from test (a + 1) n one)

module _ (shape : Shape) (is : IsShape shape) (v : RingView) (a w : ℕ) where
  -- none, or one
  pub positions_given-one : (positions_given shape v a w ≡ []) ⊎ ((p : ℕ) × (positions_given shape v a w ≡ p ∷ []))
  unfolding positions_given due_positions
  positions_given-one = search (rules, one_from, not, gives, floor_number, place_count, gives_one, and_parts)
