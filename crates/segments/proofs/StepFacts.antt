-- Steps that are given, and descriptors all of whose blocks are
use Rattle.segments.proofs.Words.{◌≡◌, ◌+◌, ◌-◌, ◌<◌, ◌≤◌, ◌==◌, ◌∷◌, ◌++◌, ℕ, suc, zero, Bool, true, false, List, [], sum, arith, refl, eq-eqb, ne_eqb, list_all, range_with_len, cases_Bool, cases_eq, cond-true, cond-false, false≢true, and_parts, and_from, or_left, or_right, not_from_false, not_from_true, not-false, not-true, or_cases, list_all_at, sum_by-cons, length-range_with_len, get_or-range_with_len, Shape, is_crossing, RingView, is_way_given, is_step_given, length_from, descriptor_length, is_not_whole, rules}

-- ---- a step

pub step_from : (shape : Shape) (v : RingView) (q : ℕ) → v.given q ≡ true → (is_crossing shape q ≡ true → v.crossed q ≡ true) → is_step_given shape v q ≡ true
unfolding is_step_given is_way_given
step_from shape v q given crossed = search (rules, and_from, or_right, or_left, not_from_false)

pub step_is : (shape : Shape) (v : RingView) (q : ℕ) → is_step_given shape v q ≡ true → (v.given q ≡ true) × (is_crossing shape q ≡ true → v.crossed q ≡ true)
unfolding is_step_given is_way_given
step_is shape v q h = search (rules, and_parts, or_cases, false≢true, not-true)

-- what one view gives another one gives too
pub record GivesMore (v w : RingView) : Type 0 where
  pub given : (p : ℕ) → v.given p ≡ true → w.given p ≡ true
  pub crossed : (q : ℕ) → v.crossed q ≡ true → w.crossed q ≡ true

pub step_more : (shape : Shape) (v w : RingView) → GivesMore v w → (q : ℕ) → is_step_given shape v q ≡ true → is_step_given shape w q ≡ true
step_more shape v w more q h = search (rules, step_is, step_from)

-- ---- descriptors

pub all_in_range : (test : ℕ → Bool) (a n : ℕ) → ((q : ℕ) → a ≤ q → q < a + n → test q ≡ true) → list_all test (range_with_len a n) ≡ true
all_in_range test a zero each = refl
all_in_range test a (suc n) each = search (rules, and_from, all_in_range test (a + 1) n (λ q low high. each q (omega arith) (omega arith)))

pub in_range_all : (test : ℕ → Bool) (a n : ℕ) → list_all test (range_with_len a n) ≡ true → (q : ℕ) → a ≤ q → q < a + n → test q ≡ true
in_range_all test a n all q low high =
    search (rules, cases_Bool (test q), get_or-range_with_len a n (q - a) 0, length-range_with_len a n, list_all_at test (range_with_len a n) (q - a) 0, false≢true)

-- the blocks behind the first one of a whole descriptor are given, with the ways to them
pub whole_is : (shape : Shape) (v : RingView) (p : ℕ) → is_not_whole shape v p ≡ false → (q : ℕ) → p < q → q < p + descriptor_length v p → is_step_given shape v q ≡ true
unfolding is_not_whole
whole_is shape v p whole q low high = search (rules, in_range_all (λ q. is_step_given shape v q) (p + 1) (descriptor_length v p - 1), not-false)

pub whole_from : (shape : Shape) (v : RingView) (p : ℕ) → ((q : ℕ) → p < q → q < p + descriptor_length v p → is_step_given shape v q ≡ true) → is_not_whole shape v p ≡ false
unfolding is_not_whole
whole_from shape v p each = grind (arith, not_from_true, all_in_range)

-- it stays whole where more is given
pub whole_more : (shape : Shape) (v w : RingView) (p : ℕ) → GivesMore v w → descriptor_length w p ≡ descriptor_length v p → is_not_whole shape v p ≡ false → is_not_whole shape w p ≡ false
whole_more shape v w p more same whole = whole_from shape w p (λ q low high. step_more shape v w more q (whole_is shape v p whole q low (omega arith)))

-- a descriptor more changes the length of none before it
pub length_from-push : (lengths : List ℕ) (n start p : ℕ) → p < start + sum lengths → length_from (lengths ++ n ∷ []) start p ≡ length_from lengths start p
unfolding length_from
length_from-push [] n start p h = cond-false (start == p) n 0 (ne_eqb start p (λ e. absurd (omega arith)))
length_from-push (m ∷ rest) n start p h = search (rules, cases_eq, cond-true, eq-eqb, cond-false, ne_eqb, sum_by-cons, length_from-push rest n (start + m) p (omega (arith, sum_by-cons (λ x. x) m rest)))
