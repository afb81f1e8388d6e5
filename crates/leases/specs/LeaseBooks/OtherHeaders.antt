-- Of a header with other rings a log keeps the same leases, where the ring of each that isn't over has the same shape
use Rattle.std.specs.Prelude.{◌≡◌, ℕ, true, List}
use Rattle.std.proofs.Common.{subst, sym}
use Rattle.segments.specs.Givings.{link_of}
use Rattle.segments.specs.Places.{is_crossing, place_of}
use Rattle.traces.specs.declared.header.Header.{Header}
use Rattle.ownership_rules.specs.OpenLeases.{Leased, Block, Link, Range}
use Rattle.leases.specs.declared.book.indexes.IndexTables.{IndexTables}
use Rattle.leases.specs.declared.book.lease_book.LeaseBook.{LeaseBook}
use Rattle.leases.specs.LeaseBooks.Books.{HoldsLents, IsFound}
use Rattle.leases.specs.LeaseBooks.IndexTables.{index_at}
use Rattle.leases.specs.LeaseBooks.Lents.{Lent}
use Rattle.leases.specs.LeaseBooks.OtherShapes.{AreShapedAlike, IsShapedAlike, both_told}

found_alike : (h g : Header) (blocks links : IndexTables) (i : ℕ) (l : Leased) → IsShapedAlike h g l → IsFound h blocks links i l → IsFound g blocks links i l
found_alike h g blocks links i (Block r p) same found = subst (λ s. index_at blocks r (place_of s p) ≡ i) (sym same) found
found_alike h g blocks links i (Link r q) same found =
    (subst (λ s. is_crossing s q ≡ true) (sym same) found.0, subst (λ s. index_at links r (link_of s q) ≡ i) (sym same) found.1)
found_alike h g blocks links i (Range n a e) same found = tt

pub held_alike : (h g : Header) (ts : List Lent) (b : LeaseBook) → AreShapedAlike h g ts → HoldsLents h ts b → HoldsLents g ts b
held_alike h g ts b same held = record {
  list = held.list;
  found = both_told (λ i l. IsShapedAlike h g l) (IsFound h b.blocks b.links) (IsFound g b.blocks b.links) 0 ts (λ i l alike found. found_alike h g b.blocks b.links i l alike found) same held.found;
}
