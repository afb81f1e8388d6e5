-- What the book of leases holds, in terms of what was and is lent
use Rattle.std.specs.Prelude.{◌≡◌, ℕ, ◌+◌, true, List, [], ◌∷◌, map}
use Rattle.segments.specs.Places.{place_of, is_crossing}
use Rattle.segments.specs.Givings.{link_of}
use Rattle.traces.specs.declared.header.Header.{Header}
use Rattle.traces.specs.declared.row.Row.{Row}
use Rattle.traces.specs.Header.{shape_of}
use Rattle.ownership_rules.specs.OpenLeases.{Leased, Block, Link, Range}
use Rattle.leases.specs.LeaseBooks.Lents.{Lent, is_unended, lease_of, lents}
use Rattle.leases.specs.declared.book.indexes.IndexTables.{IndexTables}
use Rattle.leases.specs.LeaseBooks.IndexTables.{index_at}
use Rattle.leases.specs.declared.book.lease_book.LeaseBook.{LeaseBook}

-- the tables find a lease that isn't over at this index of the list
abbrev pub IsFound : Header → IndexTables → IndexTables → ℕ → Leased → Type 0
IsFound h blocks links i (Block r p) = index_at blocks r (place_of (shape_of h r) p) ≡ i
IsFound h blocks links i (Link r q) = (is_crossing (shape_of h r) q ≡ true) × (index_at links r (link_of (shape_of h r) q) ≡ i)
IsFound h blocks links i (Range n a e) = Unit {0}

-- each lease that isn't over has this at its index; i is that of the first
abbrev pub AllUnended : (ℕ → Leased → Type 0) → ℕ → List Lent → Type 0
AllUnended F i [] = Unit {0}
AllUnended F i (t ∷ ts) = (is_unended t ≡ true → F i t.leased) × AllUnended F (i + 1) ts

-- the book holds what was and is lent
pub record HoldsLents (h : Header) (ts : List Lent) (b : LeaseBook) : Type 0 where
  pub list : b.leases.items ≡ map lease_of ts
  pub found : AllUnended (IsFound h b.blocks b.links) 0 ts

-- the book holds the leases of the rows so far, the newest first; `first` is the number of the oldest
abbrev pub FollowsLeases : Header → ℕ → List Row → LeaseBook → Type 0
FollowsLeases h first past b = HoldsLents h (lents h first past) b
