-- The first spot from another one on at an address: xHCI 4.9.2
use Rattle.std.specs.Prelude.{◌≡◌, ◌≢◌, ℕ, ◌≤◌, Option, Some, None}
use Rattle.segments.specs.declared.spot.Spot.{Spot}
use Rattle.segments.specs.ShapeValue.{Shape}
use Rattle.segments.specs.Spots.{IsSpot, rank, spot_address}

pub record IsFirstAt (shape : Shape) (from : Spot) (address : ℕ) (t : Spot) : Type 0 where
  pub spot : IsSpot shape t
  pub later : rank from ≤ rank t
  pub at : spot_address shape t ≡ address
  pub least : (u : Spot) → IsSpot shape u → rank from ≤ rank u → spot_address shape u ≡ address → rank t ≤ rank u

-- what a search from a spot on answers: with no answer no spot lies there
abbrev pub IsFrom : Shape → Spot → ℕ → Option Spot → Type 0
IsFrom shape from address None = (t : Spot) → IsSpot shape t → spot_address shape t ≢ address
IsFrom shape from address (Some t) = IsFirstAt shape from address t
