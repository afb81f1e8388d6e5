-- Where more is declared of rings, the targets to which an unfinished command moves them are the same
use Rattle.safety.proofs.Words.{[], ◌≡◌, ◌+◌, ◌≤◌, ◌&&◌, ◌∷◌, ◌∙◌, ℕ, zero, suc, Bool, true, List, find, Some, arith, sym, inl, inr, list_any, range_with_len, flat_map, cases_Bool, cases_lt, cond-true, cond-false, false≢true, and_parts, or_cases, none-some, Spot, Data, Link, Shape, IsSpot, number, RingView, declared, floor_number, named, is_target, spots_between, target, may_move_to, is_move, rank_least, rank_most, IsNamed, named_spot-Some, named_spot-is, move_more, rules}

-- ---- one ring, of which more is declared

found_longer : (test : Spot → Bool) (a m n : ℕ) (t : Spot) → m ≤ n → find test (flat_map (λ q. Link q ∷ Data q ∷ []) (range_with_len a m)) ≡ Some t →
    find test (flat_map (λ q. Link q ∷ Data q ∷ []) (range_with_len a n)) ≡ Some t
found_longer test a zero n t less found = absurd (none-some t found)
found_longer test a (suc m) zero t less found = absurd (omega arith)
found_longer test a (suc m) (suc n) t less found =
    let xs : List Spot = flat_map (λ q. Link q ∷ Data q ∷ []) (range_with_len (a + 1) m) in
    let ys : List Spot = flat_map (λ q. Link q ∷ Data q ∷ []) (range_with_len (a + 1) n) in
    elim (cases_Bool (test (Link a))) [
      | inl here ↦ cond-true (test (Link a)) (Some (Link a)) (find test (Data a ∷ ys)) here ∙ sym (cond-true (test (Link a)) (Some (Link a)) (find test (Data a ∷ xs)) here) ∙ found
      | inr fails ↦ elim (cases_Bool (test (Data a))) [
        | inl here ↦
            cond-false (test (Link a)) (Some (Link a)) (find test (Data a ∷ ys)) fails ∙ cond-true (test (Data a)) (Some (Data a)) (find test ys) here
            ∙ sym (cond-false (test (Link a)) (Some (Link a)) (find test (Data a ∷ xs)) fails ∙ cond-true (test (Data a)) (Some (Data a)) (find test xs) here) ∙ found
        | inr nor ↦
            cond-false (test (Link a)) (Some (Link a)) (find test (Data a ∷ ys)) fails ∙ cond-false (test (Data a)) (Some (Data a)) (find test ys) nor
            ∙ found_longer test (a + 1) m n t (omega arith)
            (sym (cond-false (test (Link a)) (Some (Link a)) (find test (Data a ∷ xs)) fails ∙ cond-false (test (Data a)) (Some (Data a)) (find test xs) nor) ∙ found)
      ]
    ]

find_any : (p q : Spot → Bool) (xs : List Spot) → list_any (λ t. p t && q t) xs ≡ true → (t : Spot) × (find p xs ≡ Some t)
find_any p q [] some = absurd (false≢true some)
find_any p q (x ∷ rest) some =
    elim (cases_Bool (p x)) [
      | inl here ↦ (x, cond-true (p x) (Some x) (find p rest) here)
      | inr fails ↦ elim (or_cases (p x && q x) (list_any (λ t. p t && q t) rest) some) [
        | inl passes ↦ absurd (false≢true (sym fails ∙ (and_parts (p x) (q x) passes).0))
        | inr later ↦ let found = find_any p q rest later in (found.0, cond-false (p x) (Some x) (find p rest) fails ∙ found.1)
      ]
    ]

module _ (shape : Shape) (v w : RingView) (floor : w.floor ≡ v.floor) (more : declared v ≤ declared w) where
  -- the target of a move
  pub target_still : (address : ℕ) (cycle : Bool) (least most : ℕ) → floor_number v ≤ least → most ≤ declared v → is_move shape v address cycle least most ≡ true →
      target shape w address cycle ≡ target shape v address cycle
  unfolding target is_move spots_between
  target_still address cycle least most low high moves =
      let wider : is_move shape v address cycle (floor_number v) (declared v) ≡ true =
      move_more shape v v (record { given = λ p yes. yes; crossed = λ q yes. yes }) (λ q yes. yes) address cycle least most (floor_number v) (declared v) low high moves in
      let found = find_any (is_target shape address cycle) (may_move_to shape v) (spots_between (floor_number v) (declared v)) wider in
      (search (rules, floor_number, find, is_target, flat_map, range_with_len, number, declared, found_longer)) ∙ sym found.1

  -- a spot that an event names
  pub named_still : (address : ℕ) (t : Spot) → IsSpot shape v.floor → named shape v address ≡ Some t → named shape w address ≡ Some t
  unfolding named
  named_still address t is found =
      let was : IsNamed shape v.floor (declared v) address t = named_spot-Some shape v.floor (declared v) address t is found in
      grind (arith, IsNamed, cases_lt, rank_most, rank_least, named_spot-is)
