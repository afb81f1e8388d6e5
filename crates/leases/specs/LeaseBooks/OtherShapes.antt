-- Headers with different rings, of which those of the leases that aren't over have the same shapes
use Rattle.std.specs.Prelude.{◌≡◌, ◌+◌, ◌∷◌, ℕ, List, []}
use Rattle.traces.specs.declared.header.Header.{Header}
use Rattle.traces.specs.Header.{shape_of}
use Rattle.ownership_rules.specs.OpenLeases.{Leased, Block, Link, Range}
use Rattle.leases.specs.LeaseBooks.Books.{AllUnended}
use Rattle.leases.specs.LeaseBooks.Lents.{Lent}

-- the ring of a lease has the same shape
abbrev pub IsShapedAlike : Header → Header → Leased → Type 0
IsShapedAlike h g (Block r p) = shape_of g r ≡ shape_of h r
IsShapedAlike h g (Link r q) = shape_of g r ≡ shape_of h r
IsShapedAlike h g (Range n a e) = Unit {0}

-- the ring of each that isn't over has
abbrev pub AreShapedAlike : Header → Header → List Lent → Type 0
AreShapedAlike h g ts = AllUnended (λ i l. IsShapedAlike h g l) 0 ts

-- what is told of each by two facts
pub both_told : (A F G : ℕ → Leased → Type 0) (n : ℕ) (ts : List Lent) → ((i : ℕ) (l : Leased) → A i l → F i l → G i l) → AllUnended A n ts → AllUnended F n ts → AllUnended G n ts
both_told A F G n [] f first second = tt
both_told A F G n (t ∷ ts) f first second = (λ u. f n t.leased (first.0 u) (second.0 u), both_told A F G (n + 1) ts f first.1 second.1)
