-- The rings of a trace, by their kinds, IDs and addresses
use Rattle.std.specs.Prelude.{ℕ, ◌==◌, ◌&&◌, Bool, true, false, not, List, [], Option, Some, None, find, filter}
use Rattle.std.specs.List.{list_any}
use Rattle.trb.specs.declared.ring_kind.RingKind.{RingKind}
use Rattle.trb.specs.declared.ring_kind.RingKind.TheVariants.{Cmd, Evt, Xfer}
use Rattle.segments.specs.ShapeValue.{Shape}
use Rattle.segments.specs.Places.{place_count, is_inside, touches}
use Rattle.traces.specs.declared.ring.Ring.{Ring}
use Rattle.traces.specs.declared.header.Header.{Header}

abbrev pub is_command_kind : RingKind → Bool
is_command_kind Cmd = true
is_command_kind Evt = false
is_command_kind Xfer = false

abbrev pub is_event_kind : RingKind → Bool
is_event_kind Cmd = false
is_event_kind Evt = true
is_event_kind Xfer = false

abbrev pub is_transfer_kind : RingKind → Bool
is_transfer_kind Cmd = false
is_transfer_kind Evt = false
is_transfer_kind Xfer = true

-- a command or transfer ring, of which the driver declares blocks
abbrev pub is_driver_kind : RingKind → Bool
is_driver_kind kind = not (is_event_kind kind)

abbrev pub ring_with : Header → ℕ → Option Ring
ring_with h id = find (λ r. r.id == id) h.rings

-- the shape of no ring: it has no places
abbrev pub no_shape : RingKind → Shape
no_shape kind = record { kind = kind; segments = []; offset = 0 }

abbrev pub shape_or : RingKind → Option Ring → Shape
shape_or kind None = no_shape kind
shape_or kind (Some r) = r.shape

-- the shape of the ring with this ID
unfoldable pub shape_of : Header → ℕ → Shape
shape_of h id = shape_or Xfer (ring_with h id)

-- an ID that no ring has
abbrev pub no_id : ℕ
no_id = 256

abbrev pub id_or_none : Option Ring → ℕ
id_or_none None = no_id
id_or_none (Some r) = r.id

unfoldable pub command_ring : Header → Option Ring
command_ring h = find (λ r. is_command_kind r.shape.kind) h.rings

unfoldable pub event_ring : Header → Option Ring
event_ring h = find (λ r. is_event_kind r.shape.kind) h.rings

-- the ID of the command ring
unfoldable pub command_id : Header → ℕ
command_id h = id_or_none (command_ring h)

-- the ID of the event ring
unfoldable pub event_id : Header → ℕ
event_id h = id_or_none (event_ring h)

unfoldable pub event_shape : Header → Shape
event_shape h = shape_or Evt (event_ring h)

-- how many blocks the event ring has; 0 where there is none
unfoldable pub event_size : Header → ℕ
event_size h = place_count (event_shape h)

-- the command and transfer rings
unfoldable pub driver_rings : Header → List Ring
driver_rings h = filter (λ r. is_driver_kind r.shape.kind) h.rings

abbrev pub id_of : Option Ring → Option ℕ
id_of None = None
id_of (Some r) = Some r.id

-- the transfer ring that has a block at this address
unfoldable pub ring_having : Header → ℕ → Option ℕ
ring_having h address = id_of (find (λ r. is_transfer_kind r.shape.kind && is_inside r.shape address) h.rings)

-- len bytes from this address on touch a declared segment
unfoldable pub touches_ring : Header → ℕ → ℕ → Bool
touches_ring h from len = list_any (λ r. touches r.shape from len) h.rings

-- it is ring r
abbrev pub is_ring : ℕ → Option ℕ → Bool
is_ring r None = false
is_ring r (Some q) = q == r

-- of some ring, by its ID, the test holds
unfoldable pub some_ring : Header → (ℕ → Bool) → Bool
some_ring h test = list_any (λ r. test r.id) h.rings
