-- A list of leases agrees with what was and is lent so far
use Rattle.std.specs.Prelude.{◌==◌, ◌&&◌, ◌||◌, Bool, true, false, List, [], ◌∷◌, Option, Some, None}
use Rattle.ring_knowledge.specs.declared.lease.Lease.{Lease}
use Rattle.ownership_rules.specs.Leases.{without_end}
use Rattle.leases.specs.LeaseBooks.Lents.{Lent, is_unended, lease_of}

-- both are of the same words
unfoldable pub has_words_of : Lease → Lease → Bool
has_words_of l m = l.kind == m.kind && l.ring == m.ring && l.pos == m.pos

-- and from the same row on
unfoldable pub begins_as : Lease → Lease → Bool
begins_as l m = has_words_of l m && l.from == m.from

-- the lease is that of what was lent: it begins so, and where that is over, it ends at the same row
unfoldable pub agrees : Lent → Lease → Bool
agrees t l = begins_as l (lease_of t) && (is_unended t || l.to == t.to)

-- the list begins with the leases of what was lent, one by one
unfoldable pub agree : List Lent → List Lease → Bool
agree [] leases = true
agree (t ∷ ts) [] = false
agree (t ∷ ts) (l ∷ leases) = agrees t l && agree ts leases

-- the lease has no end
unfoldable pub is_endless : Lease → Bool
is_endless l = l.to == without_end

-- a test of a lease, if there is one
abbrev pub test_of : (Lease → Bool) → Option Lease → Bool
test_of G None = false
test_of G (Some l) = G l
