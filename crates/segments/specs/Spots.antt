-- Where a controller's dequeue pointer may stand, and which of these spots an event names: xHCI 4.9.2, 6.4.2
use Rattle.std.specs.Prelude.{◌≡◌, ℕ, suc, zero, ◌+◌, ◌-◌, ◌*◌, ◌==◌, ◌&&◌, if◌then◌else◌, Bool, true, List, [], ◌∷◌, nat_le, Option, find}
use Rattle.segments.specs.declared.spot.Spot.{Spot}
use Rattle.segments.specs.declared.spot.Spot.TheVariants.{Data, Link}
use Rattle.segments.specs.ShapeValue.{Shape}
use Rattle.segments.specs.Places.{address_of, cycle_of, is_crossing, link_address}

abbrev pub number : Spot → ℕ
number (Data q) = q
number (Link q) = q

-- the spot exists: Link q does where a Link is crossed on the way to q
abbrev pub is_spot : Shape → Spot → Bool
is_spot shape (Data q) = true
is_spot shape (Link q) = is_crossing shape q

abbrev pub IsSpot : Shape → Spot → Type 0
IsSpot shape t = is_spot shape t ≡ true

-- the place of a spot in the order: Data (q - 1), Link q, Data q
abbrev pub rank : Spot → ℕ
rank (Data q) = 2 * q + 1
rank (Link q) = 2 * q

-- the spot behind the block of position p: the Link there, if there is one, else the next block
abbrev pub after : Shape → ℕ → Spot
after shape p = if is_crossing shape (p + 1) then Link (p + 1) else Data (p + 1)

-- the spot that comes next: Data (q - 1), Link q where it exists, Data q
abbrev pub next : Shape → Spot → Spot
next shape (Data q) = after shape q
next shape (Link q) = Data q

abbrev pub spot_address : Shape → Spot → ℕ
spot_address shape (Data q) = address_of shape q
spot_address shape (Link q) = link_address shape q

-- the Consumer Cycle State with which a controller stands at a spot
abbrev pub spot_cycle : Shape → Spot → ℕ
spot_cycle shape (Data q) = cycle_of shape q
spot_cycle shape (Link q) = cycle_of shape (q - 1)

-- n spots from s on
abbrev pub spots_from : Shape → Spot → ℕ → List Spot
spots_from shape s zero = []
spots_from shape s (suc n) = s ∷ spots_from shape (next shape s) n

-- what an event names: the least spot from s on with a number up to last at this address
abbrev pub named_spot : Shape → Spot → ℕ → ℕ → Option Spot
named_spot shape s last address =
    find (λ t. spot_address shape t == address && nat_le (number t) last) (spots_from shape s (2 * (last - number s) + 2))
