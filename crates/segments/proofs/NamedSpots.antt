-- Which spot an event names: the least one from a spot on with this address
use Rattle.segments.proofs.MiddleLaws.{◌≡◌, ◌≢◌, ◌+◌, ◌-◌, ◌*◌, ◌<◌, ◌≤◌, ◌==◌, ◌&&◌, ℕ, suc, zero, Bool, true, nat_le, Some, None, find, arith, refl, inl, inr, eqb-true, leb-true, cases_Bool, cond-true, cond-false, and_parts, none-some, same_Some, Spot, Shape, place_count, IsSpot, rank, number, next, spot_address, spots_from, named_spot, IsShape, rules, cases_option}
use Rattle.segments.proofs.SpotOrder.{rank_least, rank_most, same_rank, next_is_spot, next_later, same_spot}

-- t is the least spot from s on that passes
pub record IsFirst (shape : Shape) (p : Spot → Bool) (s t : Spot) : Type 0 where
  pub spot : IsSpot shape t
  pub from : rank s ≤ rank t
  pub passes : p t ≡ true
  pub least : (u : Spot) → IsSpot shape u → rank s ≤ rank u → p u ≡ true → rank t ≤ rank u

-- what the walk finds is the least spot that passes
find_first : (shape : Shape) (p : Spot → Bool) (n : ℕ) (s t : Spot) → IsSpot shape s → find p (spots_from shape s n) ≡ Some t → IsFirst shape p s t
find_first shape p zero s t is h = absurd (none-some t h)
find_first shape p (suc n) s t is h =
    grind (arith, cases_Bool, same_Some, cond-true, next_is_spot, cond-false, next_later, find_first shape p n (next shape s) t (next_is_spot shape s), cases_Bool (p s))

-- where n steps find nothing, no spot that near passes
find_nowhere : (shape : Shape) (p : Spot → Bool) (n : ℕ) (s u : Spot) → find p (spots_from shape s n) ≡ None → IsSpot shape u →
    rank s ≤ rank u → rank u < rank s + n → p u ≡ true → ⊥
find_nowhere shape p zero s u h is from near passes = omega arith
find_nowhere shape p (suc n) s u h is from near passes = search (rules, cases_Bool, none-some, cond-true, cond-false, next_later, find_nowhere shape p n (next shape s) u)

-- t is the least spot from s on with this address, and its number is at most last
pub record IsNamed (shape : Shape) (s : Spot) (last address : ℕ) (t : Spot) : Type 0 where
  pub spot : IsSpot shape t
  pub from : rank s ≤ rank t
  pub within : number t ≤ last
  pub at : spot_address shape t ≡ address
  pub least : (u : Spot) → IsSpot shape u → rank s ≤ rank u → number u ≤ last → spot_address shape u ≡ address → rank t ≤ rank u

-- the answer is that spot
pub named_spot-Some : (shape : Shape) (s : Spot) (last address : ℕ) (t : Spot) → IsSpot shape s → named_spot shape s last address ≡ Some t →
    IsNamed shape s last address t
named_spot-Some shape s last address t is h =
    search (rules, find_first shape (λ u. spot_address shape u == address && nat_le (number u) last) (2 * (last - number s) + 2) s t is h, and_parts, leb-true, eqb-true)

-- with no answer no spot from s on with a number up to last has the address
pub named_spot-None : (shape : Shape) (s : Spot) (last address : ℕ) (u : Spot) → named_spot shape s last address ≡ None → IsSpot shape u →
    rank s ≤ rank u → number u ≤ last → spot_address shape u ≢ address
named_spot-None shape s last address u h is from within at = search (rules, rank_least, rank_most, find_nowhere, nat_le)

-- that spot is the answer
pub named_spot-is : (shape : Shape) (s : Spot) (last address : ℕ) (t : Spot) → IsSpot shape s → IsNamed shape s last address t →
    named_spot shape s last address ≡ Some t
named_spot-is shape s last address t is named = elim (cases_option (named_spot shape s last address)) [
  | inl none ↦ absurd (named_spot-None shape s last address t none named.spot named.from named.within named.at)
  | inr some ↦ search (rules, named_spot-Some shape s last address some.0 is some.1, same_rank)
]

-- a spot less than a lap behind s is the one that its address names
pub named_spot-near : (shape : Shape) → IsShape shape → (s : Spot) (last : ℕ) (t : Spot) → IsSpot shape s → IsSpot shape t → rank s ≤ rank t →
    rank t < rank s + 2 * place_count shape → number t ≤ last → named_spot shape s last (spot_address shape t) ≡ Some t
named_spot-near shape is s last t a b from near within = elim (cases_option (named_spot shape s last (spot_address shape t))) [
  | inl none ↦ absurd (named_spot-None shape s last (spot_address shape t) t none b from within refl)
  | inr some ↦ search (rules, named_spot-Some shape s last (spot_address shape t) some.0 a some.1, from, within, same_spot)
]
