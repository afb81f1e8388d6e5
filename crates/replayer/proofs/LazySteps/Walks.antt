-- The spots before another one, one by one
use Rattle.replayer.proofs.Words.{◌≡◌, ◌+◌, ◌-◌, ◌*◌, ◌<◌, ◌≤◌, ◌∷◌, ◌++◌, ℕ, suc, zero, List, [], nat_lt, filter, map, refl, sym, arith, append_assoc, append-nil, cond-true, cond-false, nat_tests, Shape, Spot, number, rank, next, spots_from, Step, Look, spots_before}

number_low : (s : Spot) → 2 * number s ≤ rank s
number_low s = grind arith

number_high : (s : Spot) → rank s ≤ 2 * number s + 1
number_high s = grind arith

next_rises : (shape : Shape) (s : Spot) → rank s < rank (next shape s)
next_rises shape s = grind arith

module _ (shape : Shape) (t : Spot) where
  abbrev some_before : Spot → ℕ → List Spot
  some_before s n = filter (λ u. nat_lt (rank u) (rank t)) (spots_from shape s n)

  first_no : (s : Spot) (rest : List Spot) → rank t ≤ rank s → filter (λ u. nat_lt (rank u) (rank t)) (s ∷ rest) ≡ filter (λ u. nat_lt (rank u) (rank t)) rest
  first_no s rest past = cond-false (nat_lt (rank s) (rank t)) _ _ (grind (arith, nat_tests))

  first_yes : (s : Spot) (rest : List Spot) → rank s < rank t → filter (λ u. nat_lt (rank u) (rank t)) (s ∷ rest) ≡ s ∷ filter (λ u. nat_lt (rank u) (rank t)) rest
  first_yes s rest before = cond-true (nat_lt (rank s) (rank t)) _ _ (grind (arith, nat_tests))

  none_before : (n : ℕ) (s : Spot) → rank t ≤ rank s → some_before s n ≡ []
  none_before zero s past = refl
  none_before (suc n) s past = grind (arith, next_rises shape s, first_no s (spots_from shape (next shape s) n) past, none_before n (next shape s))

  enough : (n m : ℕ) (s : Spot) → rank t ≤ rank s + n → rank t ≤ rank s + m → some_before s n ≡ some_before s m
  enough zero m s few more = sym (none_before m s (omega arith))
  enough (suc n) zero s few more = none_before (suc n) s (omega arith)
  enough (suc n) (suc m) s few more = grind (arith, next_rises shape s, enough n m (next shape s))

  pub walk_ends : (s : Spot) → rank t ≤ rank s → spots_before shape s t ≡ []
  unfolding spots_before
  walk_ends s past = none_before (2 * (number t - number s) + 2) s past

  pub walk_goes : (s : Spot) → rank s < rank t → spots_before shape s t ≡ s ∷ spots_before shape (next shape s) t
  unfolding spots_before
  walk_goes s before = grind (arith, next_rises shape s, number_low s, number_low (next shape s), number_high t, first_yes s (spots_from shape (next shape s) (2 * (number t - number s) + 1)) before, enough (2 * (number t - number s) + 1) (2 * (number t - number (next shape s)) + 2) (next shape s))

-- the looks of a walk, from the steps made so far
pub one_look : (made : List Step) (ring : ℕ) (shape : Shape) (s t : Spot) → rank s < rank t →
    (made ++ Look ring ∷ []) ++ map (λ u. Look ring) (spots_before shape (next shape s) t) ≡ made ++ map (λ u. Look ring) (spots_before shape s t)
one_look made ring shape s t before = rw (walk_goes shape t s before) (append_assoc made _ _)

pub no_look : (made : List Step) (ring : ℕ) (shape : Shape) (s t : Spot) → rank t ≤ rank s → made ++ map (λ u. Look ring) (spots_before shape s t) ≡ made
no_look made ring shape s t past = rw (walk_ends shape t s past) (append-nil made)
