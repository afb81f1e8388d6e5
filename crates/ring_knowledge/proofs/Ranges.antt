-- Tests over a run of numbers
use Rattle.ring_knowledge.proofs.Words.{rules, ◌≡◌, ◌≢◌, ◌+◌, ◌<◌, ◌≤◌, ◌∷◌, ◌∙◌, ◌||◌, ◌&&◌, ℕ, suc, zero, List, [], Bool, true, false, refl, ap, arith, inl, inr, cond, cond-true, cond-false, Some, None, filter, find, range_with_len, list_any, cases_eq, or_left, or_right, or_parts}

-- no number passes
pub any_none : (f : ℕ → Bool) (a n : ℕ) → ((p : ℕ) → a ≤ p → p < a + n → f p ≡ false) → list_any f (range_with_len a n) ≡ false
any_none f a zero h = refl
any_none f a (suc n) h = search (rules, list_any, range_with_len, any_none f (a + 1) n)

pub or_false : (b : Bool) → (b || false) ≡ b
or_false b = grind arith

-- no number but j passes
pub any_only : (f : ℕ → Bool) (a n j : ℕ) → a ≤ j → j < a + n → ((p : ℕ) → a ≤ p → p < a + n → p ≢ j → f p ≡ false) → list_any f (range_with_len a n) ≡ f j
any_only f a zero j l u h = absurd (omega arith)
any_only f a (suc n) j l u h = elim (cases_eq a j) [
  | inl same ↦
      let rest : list_any f (range_with_len (a + 1) n) ≡ false = any_none f (a + 1) n (λ p l' u'. h p (omega arith) (omega arith) (omega arith)) in
      rw (rest, or_false (f a)) (ap f same)
  | inr other ↦ grind (arith, any_only f (a + 1) n j (omega arith) (omega arith) (λ p l' u' ne. h p (omega arith) (omega arith) ne))
]

pub filter_none : (f : ℕ → Bool) (a n : ℕ) → ((p : ℕ) → a ≤ p → p < a + n → f p ≡ false) → filter f (range_with_len a n) ≡ []
filter_none f a zero h = refl
filter_none f a (suc n) h = search (rules, filter, range_with_len, filter_none f (a + 1) n)

pub filter_only : (f : ℕ → Bool) (a n j : ℕ) → a ≤ j → j < a + n → ((p : ℕ) → a ≤ p → p < a + n → p ≢ j → f p ≡ false) → filter f (range_with_len a n) ≡ cond (f j) (j ∷ []) []
filter_only f a zero j l u h = absurd (omega arith)
filter_only f a (suc n) j l u h = search (rules, cases_eq, filter, range_with_len, filter_none, filter_only f (a + 1) n j)

-- where none passes, each number doesn't
pub none_each : (f : ℕ → Bool) (a n : ℕ) → list_any f (range_with_len a n) ≡ false → (p : ℕ) → a ≤ p → p < a + n → f p ≡ false
none_each f a zero h p l u = absurd (omega arith)
none_each f a (suc n) h p l u = search (rules, or_parts, list_any, range_with_len, cases_eq, none_each f (a + 1) n)

-- where none passes, none is found
pub find_none : (f : ℕ → Bool) (a n : ℕ) → ((p : ℕ) → a ≤ p → p < a + n → f p ≡ false) → find f (range_with_len a n) ≡ None
find_none f a zero none = refl
find_none f a (suc n) none = search (rules, find, range_with_len, cond-false, find_none f (a + 1) n)

-- the first number that passes is found
pub find_first : (f : ℕ → Bool) (a n p : ℕ) → a ≤ p → p < a + n → f p ≡ true → ((q : ℕ) → a ≤ q → q < p → f q ≡ false) → find f (range_with_len a n) ≡ Some p
find_first f a zero p low high here before = absurd (omega arith)
find_first f a (suc n) p low high here before = search (rules, cases_eq, find, range_with_len, cond-true, cond-false, find_first f (a + 1) n p)

-- a test of what passes another test
pub any_filtered : (f g : ℕ → Bool) (xs : List ℕ) → list_any f (filter g xs) ≡ list_any (λ x. g x && f x) xs
any_filtered f g [] = refl
any_filtered f g (x ∷ xs) = search (rules, list_any, filter, any_filtered f g xs)

-- a number passes
pub any_at : (f : ℕ → Bool) (a n p : ℕ) → a ≤ p → p < a + n → f p ≡ true → list_any f (range_with_len a n) ≡ true
any_at f a zero p l u h = absurd (omega arith)
any_at f a (suc n) p l u h = search (rules, cases_eq, or_left, list_any, range_with_len, or_right, any_at f (a + 1) n p)

-- tests that say the same
pub any_same : (f g : ℕ → Bool) (xs : List ℕ) → ((p : ℕ) → f p ≡ g p) → list_any f xs ≡ list_any g xs
any_same f g [] same = refl
any_same f g (x ∷ xs) same = ap (λ b. b || list_any f xs) (same x) ∙ ap (λ b. g x || b) (any_same f g xs same)

-- the same of the numbers of a run
pub any_same_from : (f g : ℕ → Bool) (a n : ℕ) → ((p : ℕ) → a ≤ p → f p ≡ g p) → list_any f (range_with_len a n) ≡ list_any g (range_with_len a n)
any_same_from f g a zero same = refl
any_same_from f g a (suc n) same = grind (arith, any_same_from f g (a + 1) n (λ p late. same p (omega arith)))
