-- The test of a move, at the one spot that a pointer and a cycle state name
use Rattle.ring_knowledge.proofs.LowerLaws.{rules, ◌≡◌, ◌+◌, ◌<◌, ◌≤◌, ◌∷◌, ◌∙◌, ◌&&◌, ◌||◌, ℕ, List, [], Bool, true, false, Some, None, refl, ap, sym, arith, inl, inr, All, find, list_any, cases_Bool, cond-true, cond-false, and_parts, or_cases, false≢true, none-some, All-head, All-tail, All-weaker, Spot, Shape, IsShape, place_count, number, RingView, is_target, spots_between, may_move_to, is_move, found_is, between, target_parts, one_between}

module _ (f g : Spot → Bool) where
  -- where none passes the first test, none passes both
  any_none : (xs : List Spot) → find f xs ≡ None → list_any (λ u. f u && g u) xs ≡ false
  any_none [] none = refl
  any_none (x ∷ rest) none = search (rules, cases_Bool, none-some, cond-true, find, list_any, cond-false, any_none rest)

  module _ (t : Spot) where
    any_passes : (xs : List Spot) → All (λ u. f u ≡ true → u ≡ t) xs → list_any (λ u. f u && g u) xs ≡ true → g t ≡ true
    any_passes [] only any = absurd (false≢true any)
    any_passes (x ∷ rest) only any = elim (or_cases (f x && g x) (list_any (λ u. f u && g u) rest) any) [
      | inl here ↦ grind (arith, and_parts, All-head)
      | inr later ↦ any_passes rest (All-tail (λ u. f u ≡ true → u ≡ t) x rest only) later
    ]

    -- where one alone passes it, that one decides
    any_only : (xs : List Spot) → find f xs ≡ Some t → All (λ u. f u ≡ true → u ≡ t) xs → list_any (λ u. f u && g u) xs ≡ g t
    any_only [] found only = absurd (none-some t found)
    any_only (x ∷ rest) found only =
        let tail = All-tail (λ u. f u ≡ true → u ≡ t) x rest only in
        elim (cases_Bool (f x)) [
          | inl passes ↦ grind (arith, All-head, any_passes)
          | inr fails ↦
              ap (λ b. (b && g x) || list_any (λ u. f u && g u) rest) fails
              ∙ any_only rest (sym (cond-false (f x) (Some x) (find f rest) fails) ∙ found) tail
        ]

module _ (shape : Shape) (v : RingView) (address : ℕ) (cycle : Bool) (least most : ℕ) where
  pub no_move : None ≡ find (is_target shape address cycle) (spots_between least most) → false ≡ is_move shape v address cycle least most
  unfolding is_move
  no_move none = sym (any_none (is_target shape address cycle) (may_move_to shape v) (spots_between least most) (sym none))

  -- between two numbers of which the second is lower lies no spot
  pub no_move_between : most < least → false ≡ is_move shape v address cycle least most
  unfolding is_move spots_between
  no_move_between none = grind arith

  pub one_move : IsShape shape → most < least + place_count shape → (t : Spot) → Some t ≡ find (is_target shape address cycle) (spots_between least most) →
      may_move_to shape v t ≡ is_move shape v address cycle least most
  unfolding is_move
  one_move is near t found =
      let P = λ (u : Spot). (least ≤ number u) × (number u ≤ most) in
      let at = found_is (is_target shape address cycle) P (spots_between least most) t (sym found) (between least most) in
      let there = target_parts shape address cycle t at.0 in
      let only : All (λ u. is_target shape address cycle u ≡ true → u ≡ t) (spots_between least most) =
      All-weaker P (λ u. is_target shape address cycle u ≡ true → u ≡ t) (λ u bounds passes.
      let here = target_parts shape address cycle u passes in
      one_between shape is least most near u t here.0 there.0 bounds.0 bounds.1 at.1.0 at.1.1 (here.1 ∙ sym there.1)) (spots_between least most) (between least most) in
      sym (any_only (is_target shape address cycle) (may_move_to shape v) t (spots_between least most) (sym found) only)
