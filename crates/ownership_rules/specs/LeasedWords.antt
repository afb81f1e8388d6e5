-- The words that a lease covers, and between which rows
use Rattle.std.specs.Prelude.{ℕ, ◌+◌, ◌==◌, ◌&&◌, if◌then◌else◌, Bool, nat_lt, nat_le}
use Rattle.traces.specs.declared.header.Header.{Header}
use Rattle.segments.specs.Places.{overlap, address_of, link_address}
use Rattle.traces.specs.Header.{shape_of}
use Rattle.ring_knowledge.specs.declared.lease.Lease.{Lease}

-- the words that a lease covers: those of a position's block, of the Link that is crossed behind a position, or of its range
unfoldable pub words_from : Header → Lease → ℕ
words_from h l =
    if l.kind == 0 then address_of (shape_of h l.ring) l.pos
    else if l.kind == 1 then link_address (shape_of h l.ring) (l.pos + 1) else l.pos

unfoldable pub words_bytes : Lease → ℕ
words_bytes l = if l.kind == 2 then l.ring else 16

-- it began before row n, wasn't over before it, and has one of 4 bytes from an address on
unfoldable pub covers_at : Header → ℕ → ℕ → Lease → Bool
covers_at h n a l = nat_lt l.from n && nat_le n l.to && overlap a 4 (words_from h l) (words_bytes l)
