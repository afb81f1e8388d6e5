-- The rings that live behind a row: xHCI 4.9
use Rattle.std.specs.Prelude.{ℕ, ◌==◌, ◌++◌, not, [], ◌∷◌, filter}
use Rattle.traces.specs.declared.header.Header.{Header}
use Rattle.traces.specs.declared.ring.Ring.{Ring}
use Rattle.traces.specs.declared.row.Row.{Row}
use Rattle.traces.specs.declared.row.Row.TheVariants.{Ring as RingRow, Free as FreeRow}

-- a header lists one ring more, or the ring with an ID no more
unfoldable pub with_ring : Header → Ring → Header
with_ring h r = record h { rings = h.rings ++ r ∷ [] }

unfoldable pub without_ring : Header → ℕ → Header
without_ring h id = record h { rings = filter (λ r. not (r.id == id)) h.rings }

-- the rings that live behind a row that breaks no rule
abbrev pub header_after : Header → Row → Header
header_after h (RingRow ring) = with_ring h ring
header_after h (FreeRow id) = without_ring h id
header_after h row = h
