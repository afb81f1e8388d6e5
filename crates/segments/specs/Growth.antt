-- Rings that grow: new segments are linked in behind one of their segments, and used from a position on: xHCI 4.9.2.3
use Rattle.std.specs.Prelude.{ℕ, ◌+◌, ◌-◌, ◌*◌, List, ◌++◌, take, drop}
use Rattle.segments.specs.declared.segment.Segment.{Segment}
use Rattle.segments.specs.ShapeValue.{Shape}
use Rattle.segments.specs.Places.{place_count, lap_of}

-- the shape with new segments behind segment j
abbrev pub with_segments : Shape → ℕ → List Segment → Shape
with_segments shape j new = record shape { segments = take (j + 1) shape.segments ++ new ++ drop (j + 1) shape.segments }

-- how many data places more the other has
abbrev pub places_more : Shape → Shape → ℕ
places_more shape longer = place_count longer - place_count shape

-- the ring has grown behind segment j, whose Link is crossed on the way to position q: the lap of the position before it goes on, and
-- what lies less than a lap before q stays where it was
unfoldable pub grown : Shape → ℕ → List Segment → ℕ → Shape
grown shape j new q =
    record (with_segments shape j new) { offset = shape.offset + places_more shape (with_segments shape j new) * lap_of shape (q - 1) }
