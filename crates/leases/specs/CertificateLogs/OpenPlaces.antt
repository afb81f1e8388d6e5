-- Which lease that isn't over has a place of a ring
use Rattle.std.specs.Prelude.{◌≡◌, ℕ, zero, suc, ◌==◌, ◌&&◌, Bool, true, false, List, [], ◌∷◌}
use Rattle.std.specs.List.{list_any}
use Rattle.segments.specs.Places.{place_of, is_crossing}
use Rattle.segments.specs.Givings.{link_of}
use Rattle.traces.specs.declared.header.Header.{Header}
use Rattle.traces.specs.Header.{shape_of}
use Rattle.ownership_rules.specs.OpenLeases.{Leased, Block, Link, Range}
use Rattle.leases.specs.declared.book.indexes.IndexTables.{IndexTables}
use Rattle.leases.specs.LeaseBooks.IndexTables.{index_at}
use Rattle.leases.specs.LeaseBooks.Lents.{Lent, is_unended}
use Rattle.leases.specs.LeaseBooks.Books.{AllUnended}

-- of a list the one at this index passes the test, and no other
abbrev pub IsOnlyAt : (Lent → Bool) → ℕ → List Lent → Type 0
IsOnlyAt p i [] = ⊥
IsOnlyAt p zero (t ∷ ts) = (p t ≡ true) × (list_any p ts ≡ false)
IsOnlyAt p (suc i) (t ∷ ts) = (p t ≡ false) × IsOnlyAt p i ts

-- the one of this number, counted from 1, passes it, and no other; for 0 none does
abbrev pub IsOnly : (Lent → Bool) → ℕ → List Lent → Type 0
IsOnly p zero ts = list_any p ts ≡ false
IsOnly p (suc i) ts = IsOnlyAt p i ts

-- it isn't over, and of these
abbrev pub is_open_of : (Leased → Bool) → Lent → Bool
is_open_of S t = is_unended t && S t.leased

-- a place of a ring: for a block, or for the Link of a segment
pub data RingPlace : Type 0 where
  BlockPlace : (ring place : ℕ) → RingPlace
  LinkPlace : (ring segment : ℕ) → RingPlace

-- what is leased has the place
abbrev pub has_place : Header → RingPlace → Leased → Bool
has_place h (BlockPlace r i) (Block s p) = r == s && i == place_of (shape_of h s) p
has_place h (LinkPlace r i) (Link s q) = r == s && i == link_of (shape_of h s) q
has_place h _ _ = false

-- the number that stands in tables for a place
abbrev pub number_at : IndexTables → IndexTables → RingPlace → ℕ
number_at blocks links (BlockPlace r i) = index_at blocks r i
number_at blocks links (LinkPlace r i) = index_at links r i

-- each place has the number of what is lent there and isn't over; 0: nothing is, as at every place of a ring that isn't there
abbrev pub FindsPlaces : Header → List Lent → IndexTables → IndexTables → Type 0
FindsPlaces h ts blocks links = (m : RingPlace) → IsOnly (is_open_of (has_place h m)) (number_at blocks links m) ts

-- a Link is crossed on the way to its position
abbrev pub IsCrossed : Header → Leased → Type 0
IsCrossed h (Block r p) = Unit {0}
IsCrossed h (Link r q) = is_crossing (shape_of h r) q ≡ true
IsCrossed h (Range n a e) = Unit {0}

abbrev pub AreCrossed : Header → List Lent → Type 0
AreCrossed h ts = AllUnended (λ i l. IsCrossed h l) 0 ts
