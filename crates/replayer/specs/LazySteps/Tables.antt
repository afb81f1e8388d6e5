-- What the tables of the passes hold, by ring ID
use Rattle.std.specs.Prelude.{◌≡◌, ℕ, ◌<◌, List, slice_index, get_or}
use Rattle.segments.specs.declared.spot.Spot.{Spot}
use Rattle.segments.specs.declared.spot.Spot.TheVariants.{Data}

-- the table holds f of each ring ID
abbrev pub IsTable : List ℕ → (ℕ → ℕ) → Type 0
IsTable table f = (r : ℕ) → r < 256 → slice_index table r ≡ f r

-- by ring ID, the spot in a table; the beginning outside of it
abbrev pub spot_in : List Spot → ℕ → Spot
spot_in table r = get_or table r (Data 0)
