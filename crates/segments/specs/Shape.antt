-- Which segments make a ring: xHCI 4.9, 6.5, tables 6-1 and 6-91, and this project's limits
use Rattle.std.specs.Prelude.{ℕ, ◌+◌, ◌*◌, ◌/◌, ◌%◌, ◌^◌, ◌-◌, ◌==◌, ◌&&◌, Bool, true, not, List, [], ◌∷◌, length, nat_lt, nat_le, IsTrue}
use Rattle.std.specs.List.{list_all, list_any}
use Rattle.trb.specs.declared.ring_kind.RingKind.{RingKind}
use Rattle.trb.specs.declared.ring_kind.RingKind.TheVariants.{Cmd, Evt, Xfer}
use Rattle.segments.specs.declared.segment.Segment.{Segment}
use Rattle.segments.specs.declared.fault.ShapeFault.{ShapeFault}
use Rattle.segments.specs.declared.fault.ShapeFault.TheVariants.{Shape as BadShape, Memory}
use Rattle.segments.specs.ShapeValue.{Shape}
use Rattle.segments.specs.Places.{place_count, overlap}

abbrev pub shape_fault_number : ShapeFault → ℕ
shape_fault_number BadShape = 5
shape_fault_number Memory = 30

-- segments of transfer rings lie on 16 byte boundaries, those of command and event rings on 64
abbrev pub alignment : RingKind → ℕ
alignment Xfer = 16
alignment Cmd = 64
alignment Evt = 64

abbrev pub least_count : RingKind → ℕ
least_count Evt = 16
least_count Cmd = 2
least_count Xfer = 2

abbrev pub most_blocks : ℕ
most_blocks = 4096

abbrev pub most_segments : ℕ
most_segments = 64

-- no segment crosses a boundary of 64 KB
abbrev pub is_in_one_page : Segment → Bool
is_in_one_page s = s.base / 2 ^ 16 == (s.base + 16 * s.count - 1) / 2 ^ 16

abbrev pub is_segment : RingKind → Segment → Bool
is_segment kind s =
    nat_lt s.base (2 ^ 64) && s.base % alignment kind == 0 && nat_le (least_count kind) s.count && nat_le s.count most_blocks && is_in_one_page s

-- a byte lies in both
abbrev pub segments_overlap : Segment → Segment → Bool
segments_overlap s t = overlap s.base (16 * s.count) t.base (16 * t.count)

-- a segment of one ring overlaps one of the other
abbrev pub rings_overlap : Shape → Shape → Bool
rings_overlap a b = list_any (λ s. list_any (segments_overlap s) b.segments) a.segments

abbrev pub are_apart : List Segment → Bool
are_apart [] = true
are_apart (s ∷ rest) = not (list_any (segments_overlap s) rest) && are_apart rest

-- the shape is allowed, other rings apart
abbrev pub is_shape : Shape → Bool
is_shape shape =
    nat_le (length shape.segments) most_segments && list_all (is_segment shape.kind) shape.segments
    && nat_le 2 (place_count shape) && are_apart shape.segments

abbrev pub IsShape : Shape → Type 0
IsShape shape = IsTrue (is_shape shape)
