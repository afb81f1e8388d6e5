-- The spot that a pointer and a cycle state name is the one to which the ring may be moved
use Rattle.segments.proofs.UpperLaws.{◌≡◌, ◌+◌, ◌-◌, ◌≤◌, ◌&&◌, ◌∷◌, ◌∙◌, ℕ, suc, zero, Bool, true, [], All, Some, arith, sym, ap, eqb-true, range_with_len, flat_map, cases_lt, and_parts, All-nil, All-cons, All-get_or, Any-from_list_any, Spot, Data, Link, Shape, IsSpot, number, spot_address, IsShape, RingView, declared, floor_number, is_border, is_target, spots_between, target, is_reached, may_move_to, is_move, RingKeeps, rules, rank_least, rank_most, same_spot}
use Rattle.segments.proofs.Named.{found_is}

-- a spot at an address, with a number from least to most
record IsAt (shape : Shape) (address least most : ℕ) (t : Spot) : Type 0 where
  pub is_spot : IsSpot shape t
  pub at : spot_address shape t ≡ address
  pub from : least ≤ number t
  pub to : number t ≤ most

spots_within : (least most a n : ℕ) → least ≤ a → a + n ≤ most + 1 → All (λ t. (least ≤ number t) × (number t ≤ most)) (flat_map (λ q. Link q ∷ Data q ∷ []) (range_with_len a n))
spots_within least most a zero low high = All-nil (λ t. (least ≤ number t) × (number t ≤ most))
spots_within least most a (suc n) low high = search (rules, spots_within least most (a + 1) n (omega arith) (omega arith), All-cons, flat_map, range_with_len)

pub between : (least most : ℕ) → All (λ t. (least ≤ number t) × (number t ≤ most)) (spots_between least most)
unfolding spots_between
between least most = grind (arith, cases_lt most least, spots_within least most least (most + 1 - least))

target_at : (shape : Shape) (address : ℕ) (cycle : Bool) (least most : ℕ) (t : Spot) → is_target shape address cycle t ≡ true → (least ≤ number t) × (number t ≤ most) →
    IsAt shape address least most t
unfolding is_target
target_at shape address cycle least most t is bounds = grind (arith, and_parts, eqb-true)

-- two spots at one address from the floor's number up to what is declared are one
one_at : (shape : Shape) → IsShape shape → (memory : ℕ → ℕ) (v : RingView) → RingKeeps shape memory v → (address : ℕ) (s t : Spot) →
    IsAt shape address (floor_number v) (declared v) s → IsAt shape address (floor_number v) (declared v) t → s ≡ t
one_at shape is memory v k address s t a b = search (rules, cases_lt, same_spot, rank_least, rank_most)

-- where a spot passes the test of a move, the target is that spot: everything before it is given
pub move_target : (shape : Shape) → IsShape shape → (memory : ℕ → ℕ) (v : RingView) → RingKeeps shape memory v → (address : ℕ) (cycle : Bool) (least most : ℕ) (t : Spot) →
    floor_number v ≤ least → most ≤ declared v → is_move shape v address cycle least most ≡ true → target shape v address cycle ≡ Some t → is_reached shape v t ≡ true
unfolding is_move target may_move_to
move_target shape is memory v k address cycle least most t low high moves named =
    let found = found_is (is_target shape address cycle) (λ u. (floor_number v ≤ number u) × (number u ≤ declared v)) (spots_between (floor_number v) (declared v)) t named (between (floor_number v) (declared v)) in
    let any = Any-from_list_any (λ u. is_target shape address cycle u && may_move_to shape v u) (spots_between least most) moves in
    let u : Spot = any.1 in
    let passes = and_parts (is_target shape address cycle u) (may_move_to shape v u) any.4 in
    let bounds : (least ≤ number u) × (number u ≤ most) = search (rules, number, All-get_or, spots_between, between) in
    let same : u ≡ t = one_at shape is memory v k address u t
    (target_at shape address cycle (floor_number v) (declared v) u passes.0 (omega arith, omega arith))
    (target_at shape address cycle (floor_number v) (declared v) t found.0 found.1) in
    ap (λ x. is_reached shape v x) (sym same) ∙ (and_parts (is_border v.lengths 0 (number u)) (is_reached shape v u) passes.1).1
