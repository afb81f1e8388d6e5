-- The one spot, with a number between two that are less than a lap apart, at which a pointer and a cycle state stand
use Rattle.ring_knowledge.proofs.Words.{◌≡◌, ◌≢◌, ◌+◌, ◌-◌, ◌<◌, ◌≤◌, ◌∷◌, ◌∙◌, ◌==◌, ◌&&◌, if◌then◌else◌, ℕ, suc, zero, [], refl, Bool, true, false, Some, None, ap, sym, arith, find, eqb-true, eq-eqb, flat_map, range_with_len, cases_lt, cases_eq, cases_Bool, cond-true, cond-false, and_parts, and_from, false≢true, false_from_ne_true, Spot, Data, Link, Shape, IsShape, place_count, IsSpot, is_spot, number, rank, spot_address, spot_cycle, is_target, spots_between, rank_least, rank_most, same_spot, IsFirstAt, rules}

-- ---- a search among the spots with n numbers from a on

-- no spot passes
find_none : (f : Spot → Bool) (a n : ℕ) → ((u : Spot) → a ≤ number u → number u < a + n → f u ≡ true → ⊥) →
    find f (flat_map (λ q. Link q ∷ Data q ∷ []) (range_with_len a n)) ≡ None
find_none f a zero none = refl
find_none f a (suc n) none = search (rules, flat_map, range_with_len, cond-false, find, false_from_ne_true, find_none f (a + 1) n)

-- one spot passes
find_only : (f : Spot → Bool) (a n : ℕ) (t : Spot) → a ≤ number t → number t < a + n → f t ≡ true →
    ((u : Spot) → a ≤ number u → number u < a + n → f u ≡ true → u ≡ t) → find f (flat_map (λ q. Link q ∷ Data q ∷ []) (range_with_len a n)) ≡ Some t
find_only f a zero t low high passes only = absurd (omega arith)
find_only f a (suc n) t low high passes only = search (rules, flat_map, range_with_len, cases_Bool, cond-true, find, cond-false, false≢true, number, cases_eq, find_only f (a + 1) n t)

-- ---- the targets of a pointer and a cycle state

pub target_parts : (shape : Shape) (address : ℕ) (cycle : Bool) (t : Spot) → is_target shape address cycle t ≡ true → IsSpot shape t × (spot_address shape t ≡ address)
unfolding is_target
target_parts shape address cycle t h = search (rules, and_parts, is_spot, spot_address, spot_cycle, eqb-true)

target_test : (shape : Shape) (address : ℕ) (cycle : Bool) (t : Spot) → IsSpot shape t → spot_address shape t ≡ address →
    (spot_cycle shape t == (if cycle then 1 else 0)) ≡ true → is_target shape address cycle t ≡ true
unfolding is_target
target_test shape address cycle t is at has = grind (arith, and_from, eq-eqb)

target_cycle : (shape : Shape) (address : ℕ) (cycle : Bool) (t : Spot) → is_target shape address cycle t ≡ true → (spot_cycle shape t == (if cycle then 1 else 0)) ≡ true
unfolding is_target
target_cycle shape address cycle t h = (and_parts (is_spot shape t && spot_address shape t == address) (spot_cycle shape t == (if cycle then 1 else 0)) h).1

-- two spots at one address, with numbers less than a lap apart, are one
pub one_between : (shape : Shape) → IsShape shape → (least most : ℕ) → most < least + place_count shape → (s t : Spot) → IsSpot shape s → IsSpot shape t →
    least ≤ number s → number s ≤ most → least ≤ number t → number t ≤ most → spot_address shape s ≡ spot_address shape t → s ≡ t
one_between shape is least most near s t a b from to from' to' same = search (rules, cases_lt, same_spot, rank_least, rank_most)

module _ (shape : Shape) (is : IsShape shape) (address : ℕ) (cycle : Bool) (least most : ℕ) where
  -- with no spot at the address there is none
  pub none_between : ((t : Spot) → IsSpot shape t → spot_address shape t ≢ address) → None ≡ find (is_target shape address cycle) (spots_between least most)
  unfolding spots_between
  none_between nowhere = grind (arith, find_none, target_parts)

  module _ (near : most < least + place_count shape) (t : Spot) (first : IsFirstAt shape (Link least) address t) where
    -- only the first spot from the least number on can be it
    only_first : (u : Spot) → least ≤ number u → number u ≤ most → is_target shape address cycle u ≡ true → u ≡ t
    only_first u from to passes = search (rules, target_parts, rank, rank_least, same_spot, rank_most)

    -- it is near enough and has the cycle
    pub first_between : number t ≤ most → (spot_cycle shape t == (if cycle then 1 else 0)) ≡ true → Some t ≡ find (is_target shape address cycle) (spots_between least most)
    unfolding spots_between
    first_between to has =
        let from : least ≤ number t = omega (arith, rank_most t, first.later) in
        sym (find_only (is_target shape address cycle) least (most + 1 - least) t from (omega arith) (target_test shape address cycle t first.spot first.at has)
        (λ u low high passes. only_first u low (omega arith) passes))

    -- it lies further on
    pub first_beyond : most < number t → None ≡ find (is_target shape address cycle) (spots_between least most)
    unfolding spots_between
    first_beyond past =
        sym (find_none (is_target shape address cycle) least (most + 1 - least) (λ u low high passes.
        let same : number u ≡ number t = ap number (only_first u low (omega arith) passes) in absurd (omega arith)))

    -- it has the other cycle
    pub first_other : (spot_cycle shape t == (if cycle then 1 else 0)) ≡ false → None ≡ find (is_target shape address cycle) (spots_between least most)
    unfolding spots_between
    first_other other =
        sym (find_none (is_target shape address cycle) least (most + 1 - least) (λ u low high passes.
        let same = only_first u low (omega arith) passes in
        false≢true (sym other ∙ ap (λ x. spot_cycle shape x == (if cycle then 1 else 0)) (sym same) ∙ target_cycle shape address cycle u passes)))
