-- The spots that events and pointers name, and how far a ring's controller may have gone
use Rattle.segments.proofs.UpperLaws.{rules, ◌≡◌, ◌+◌, ◌-◌, ◌<◌, ◌≤◌, ◌∷◌, ℕ, suc, zero, Bool, true, List, [], All, find, Some, arith, ltb-true, range_with_len, flat_map, cases_Bool, cond-true, cond-false, false≢true, and_parts, none-some, same_Some, All-head, All-tail, Spot, Data, Link, Shape, IsSpot, number, IsShape, RingView, declared, floor_number, given_count, ceiling, named, is_data_below, is_target, spots_between, target, RingKeeps, rank_least, rank_most, IsNamed, named_spot-Some, floor_given, inl, inr, cases_option}
pub use Rattle.segments.proofs.GivenCount.{ceiling_held, ceiling_open}

-- ---- how far

-- the ceiling lies between the floor and what is given
pub ceiling_within : (shape : Shape) → IsShape shape → (memory : ℕ → ℕ) (v : RingView) → RingKeeps shape memory v →
    (floor_number v ≤ ceiling shape v) × (ceiling shape v ≤ given_count shape v)
ceiling_within shape is memory v k = elim (cases_option v.held) [
  | inl none ↦ search (rules, ceiling_open shape v none, floor_given shape is memory v k)
  | inr some ↦ search (rules, ceiling_held shape v some.0 some.1, k.held some.0 some.1)
]

pub below_is : (n : ℕ) (t : Spot) → is_data_below n t ≡ true → number t < n
unfolding is_data_below
below_is n t h3 = search (rules, ltb-true, false≢true)

-- ---- what is named

-- a spot from the floor on
pub record IsAhead (shape : Shape) (v : RingView) (t : Spot) : Type 0 where
  pub is_spot : IsSpot shape t
  pub from : floor_number v ≤ number t

pub named_ahead : (shape : Shape) (memory : ℕ → ℕ) (v : RingView) → RingKeeps shape memory v → (address : ℕ) (t : Spot) → named shape v address ≡ Some t → IsAhead shape v t
unfolding named
named_ahead shape memory v k address t h = search (rules, IsNamed, named_spot-Some, rank_least, rank_most, named_spot-Some shape v.floor (declared v) address t k.is_spot h)

-- what is found passes, and is as all are
pub found_is : (test : Spot → Bool) (P : Spot → Type 0) (ts : List Spot) (t : Spot) → find test ts ≡ Some t → All P ts → (test t ≡ true) × P t
found_is test P [] t found all = absurd (none-some t found)
found_is test P (u ∷ rest) t found all =
    search (rules, cases_Bool (test u), same_Some, cond-true, cond-false, find, All-head P u rest all, found_is test P rest t, All-tail P u rest all)

spots_ahead : (least a n : ℕ) → least ≤ a → All (λ t. least ≤ number t) (flat_map (λ q. Link q ∷ Data q ∷ []) (range_with_len a n))
spots_ahead least a zero low = search rules
spots_ahead least a (suc n) low = grind (arith, spots_ahead least (a + 1) n (omega arith))

-- the target of a pointer and a cycle state is a spot from the floor on, there
pub target_ahead : (shape : Shape) (v : RingView) (address : ℕ) (cycle : Bool) (t : Spot) → target shape v address cycle ≡ Some t → IsAhead shape v t
unfolding target spots_between is_target
target_ahead shape v address cycle t h =
    search (rules, found_is _ (λ u. floor_number v ≤ number u) (flat_map (λ q. Link q ∷ Data q ∷ []) (range_with_len (floor_number v) (declared v + 1 - floor_number v))) t h (spots_ahead (floor_number v) (floor_number v) (declared v + 1 - floor_number v) (omega arith)), and_parts)
