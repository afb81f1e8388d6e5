-- What an event names, and where a pointer and a cycle state stand, by the first spot at an address
use Rattle.ring_knowledge.proofs.Words.{◌≡◌, ◌≢◌, ◌<◌, ◌≤◌, ◌^◌, ℕ, Bool, Option, Some, None, sym, arith, inl, inr, subst, IfSome, find, Spot, Shape, IsSpot, number, spot_address, named_spot, RingView, declared, floor_number, named, is_target, spots_between, target, cases_option, rank_least, rank_most, IsNamed, named_spot-Some, named_spot-is, IsFirstAt, rules}

module _ (shape : Shape) (v : RingView) (is : IsSpot shape v.floor) (address : ℕ) where
  -- no spot lies at the address
  pub named_nowhere : ((t : Spot) → IsSpot shape t → spot_address shape t ≢ address) → None ≡ named shape v address
  unfolding named
  named_nowhere nowhere = elim (cases_option (named_spot shape v.floor (declared v) address)) [
    | inl none ↦ sym none
    | inr some ↦
        let found : IsNamed shape v.floor (declared v) address some.0 = named_spot-Some shape v.floor (declared v) address some.0 is some.1 in
        absurd (nowhere some.0 found.spot found.at)
  ]

  module _ (floor : Spot) (same : v.floor ≡ floor) (t : Spot) (at : IsFirstAt shape floor address t) where
    first : IsFirstAt shape v.floor address t
    first = subst (λ s. IsFirstAt shape s address t) (sym same) at

    -- the first spot there is declared
    pub named_first : number t ≤ declared v → Some t ≡ named shape v address
    unfolding named
    named_first within = search (rules, named_spot-is, first)

    -- or it isn't
    pub named_beyond : declared v < number t → None ≡ named shape v address
    unfolding named
    named_beyond past = elim (cases_option (named_spot shape v.floor (declared v) address)) [
      | inl none ↦ sym none
      | inr some ↦
          let found : IsNamed shape v.floor (declared v) address some.0 = named_spot-Some shape v.floor (declared v) address some.0 is some.1 in
          absurd (omega (arith, first.least some.0 found.spot found.from found.at, found.within, rank_most some.0, rank_least t))
    ]

-- the target is looked for from the floor's number up to what is declared
pub target_is : (shape : Shape) (v : RingView) (address : ℕ) (cycle : Bool) (least most : ℕ) → least ≡ floor_number v → most ≡ declared v →
    find (is_target shape address cycle) (spots_between least most) ≡ target shape v address cycle
unfolding target
target_is shape v address cycle least most floor end = grind arith

-- a spot within a bound has a small number
pub few_within : (o : Option Spot) (most : ℕ) → most < 2 ^ 63 → IfSome o (λ t. number t ≤ most) → IfSome o (λ t. number t < 2 ^ 63)
few_within o most few within = grind arith
