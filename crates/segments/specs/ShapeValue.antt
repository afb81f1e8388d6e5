-- What contracts see of a ring's shape
use Rattle.std.specs.Prelude.{ℕ, List, map}
use Rattle.trb.specs.declared.ring_kind.RingKind.{RingKind}
use Rattle.segments.specs.declared.segment.Segment.{Segment}

pub record Shape : Type 0 where
  pub kind : RingKind
  pub segments : List Segment
  -- what is added to a position before places and laps are counted: 0, until the ring has grown behind its first lap
  pub offset : ℕ

-- a segment from its first address and its number of blocks
abbrev pub segment_of : ℕ × ℕ → Segment
segment_of pair = record { base = pair.0; count = pair.1 }

-- the shape of this kind with these segments, in order
abbrev pub shape_of : RingKind → List (ℕ × ℕ) → Shape
shape_of kind pairs = record { kind = kind; segments = map segment_of pairs; offset = 0 }
