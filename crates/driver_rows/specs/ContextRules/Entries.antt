-- Which ranges under lease some bytes touch: xHCI 4.9.4, 6.1
use Rattle.std.specs.Prelude.{ℕ, ◌*◌, ◌&&◌, Bool, is_some}
use Rattle.std.specs.List.{list_any}
use Rattle.segments.specs.ShapeValue.{Shape}
use Rattle.segments.specs.Places.{overlap}
use Rattle.traces.specs.declared.header.Header.{Header}
use Rattle.traces.specs.Header.{event_shape}
use Rattle.ring_knowledge.specs.Known.{Known}
use Rattle.ring_knowledge.specs.Writes.{entry_of}

-- slot s has a device context under lease, and len bytes from an address on touch its entry in the Device Context Base Address Array
unfoldable pub touches_entry : Known → ℕ → ℕ → ℕ → Bool
touches_entry k from len s = is_some (k.device s) && overlap from len (entry_of k s) 8

-- so many bytes from an address on have a byte of one of the segments
abbrev pub touches_segment : Shape → ℕ → ℕ → Bool
touches_segment shape from len = list_any (λ s. overlap from len s.base (16 * s.count)) shape.segments

-- they have one of a segment of the event ring
abbrev pub touches_event_segment : Header → ℕ → ℕ → Bool
touches_event_segment h from len = touches_segment (event_shape h) from len
