-- Which leases are of a ring, of the blocks that are withdrawn of it, and of those whose words were the driver's
use Rattle.std.specs.Prelude.{ℕ, ◌==◌, ◌&&◌, Bool, false}
use Rattle.segments.specs.Places.{is_in}
use Rattle.ownership_rules.specs.OpenLeases.{Leased, Block, Link, Range}

-- the lease of a block or of a Link of this ring
abbrev pub is_of_ring : ℕ → Leased → Bool
is_of_ring r (Block s p) = s == r
is_of_ring r (Link s q) = s == r
is_of_ring r (Range n a e) = false

-- the lease of one of the n blocks of a ring from a position on
abbrev pub is_withdrawn : ℕ → ℕ → ℕ → Leased → Bool
is_withdrawn r p n (Block s q) = s == r && is_in q p n
is_withdrawn r p n (Link s q) = false
is_withdrawn r p n (Range m a e) = false

-- the lease of a block of a ring whose words were the driver's
abbrev pub is_freed : (ℕ → Bool) → ℕ → Leased → Bool
is_freed free r (Block s p) = s == r && free p
is_freed free r (Link s q) = false
is_freed free r (Range m a e) = false
