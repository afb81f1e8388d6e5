-- The shape of a ring of the header, or of an ID that no ring has
use Rattle.std.specs.Prelude.{Option, Some, None}
use Rattle.std.specs.Borrow.{Bor}
use Rattle.trb.specs.declared.ring_kind.RingKind.TheVariants.{Xfer}
use Rattle.segments.specs.ShapeValue.{Shape}
use Rattle.traces.specs.Header.{no_shape}

-- without a ring, that of no ring
abbrev pub shape_behind : Option (Bor Shape) → Shape
shape_behind None = no_shape Xfer
shape_behind (Some shape) = shape.now
