-- A lease of a list ends
use Rattle.std.specs.Prelude.{ℕ, ◌==◌, ◌&&◌, if◌then◌else◌, Bool, List, [], ◌∷◌, zero, suc}
use Rattle.ring_knowledge.specs.declared.lease.Lease.{Lease}
use Rattle.ownership_rules.specs.Leases.{without_end}

-- it is without end, and of the same words
unfoldable pub is_open_as : Lease → Lease → Bool
is_open_as l m = m.to == without_end && l.kind == m.kind && l.ring == m.ring && l.pos == m.pos

-- the lease at an index ends at row n, if it is open and of the words of l
unfoldable pub ended_at : Lease → ℕ → ℕ → List Lease → List Lease
ended_at l n i [] = []
ended_at l n zero (m ∷ ms) = (if is_open_as l m then record m { to = n } else m) ∷ ms
ended_at l n (suc i) (m ∷ ms) = m ∷ ended_at l n i ms
