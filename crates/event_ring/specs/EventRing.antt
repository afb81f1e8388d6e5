-- The Event Ring and its segment table: xHCI 4.9.4, 5.5.2.3.3 (ERDP), 6.5
-- The ring's shape is one of kind Evt: all its blocks are data places. An event position p lies at place p, and its
-- Cycle bit is that of p, as on any ring.
use Rattle.std.specs.Prelude.{ℕ, ◌+◌, ◌*◌, ◌/◌, ◌%◌, ◌^◌, ◌==◌, ◌&&◌, ◌||◌, ◌≤◌, ◌<◌, Bool, true, not, List, [], ◌∷◌, length, nat_lt, find, unwrap_or}
use Rattle.std.specs.List.{list_any, range_with_len}
use Rattle.guest_memory.specs.Memory.{long_at}
use Rattle.segments.specs.declared.segment.Segment.{Segment}
use Rattle.segments.specs.ShapeValue.{Shape}
use Rattle.segments.specs.Places.{data_places, place_count, address_of}

-- how far the controller and the driver are: events posted, events read, and the position that ERDP names
pub record EventCounts : Type 0 where
  pub posted : ℕ
  pub reads : ℕ
  pub dequeue : ℕ

-- what the counts of an event ring of this size keep: an unread event is never posted over
pub record AreInOrder (size : ℕ) (c : EventCounts) : Type 0 where
  pub dequeued : c.dequeue ≤ c.reads
  pub read : c.reads ≤ c.posted
  pub room : 0 < c.posted → c.posted + 1 ≤ c.dequeue + size

-- the controller has room for one more event: the place after it isn't the one that ERDP names
abbrev pub has_room : ℕ → ℕ → ℕ → Bool
has_room size posted dequeue = not ((posted + 1) % size == dequeue % size)

-- bits 63:4 of ERDP
abbrev pub erdp_address : ℕ → ℕ
erdp_address value = value / 16 * 16

abbrev pub is_event_place : Shape → ℕ → Bool
is_event_place shape address = list_any (λ a. a == address) (data_places shape)

-- the least event position from p on at an event place
abbrev pub position_from : Shape → ℕ → ℕ → ℕ
position_from shape p address = unwrap_or (find (λ q. address_of shape q == address) (range_with_len p (place_count shape))) p

-- the address is the place of a position from p on, at most more later
abbrev pub is_reached_within : Shape → ℕ → ℕ → ℕ → Bool
is_reached_within shape p more address =
    nat_lt 0 (place_count shape) && list_any (λ q. address_of shape q == address) (range_with_len p (more + 1))

-- the segment table at base lists these segments in order (6.5): words 0 and 1 bits 63:6 the base, word 2 bits 15:0 the size
abbrev pub lists : (ℕ → ℕ) → ℕ → List Segment → Bool
lists memory base [] = true
lists memory base (s ∷ rest) =
    long_at memory base / 64 * 64 == s.base && memory (base + 8) % 2 ^ 16 == s.count && lists memory (base + 16) rest

abbrev pub table_bytes : Shape → ℕ
table_bytes shape = 16 * length shape.segments

-- the size entries from base on aren't the event segments in order, or end above 2^64
abbrev pub is_table_fault : (ℕ → ℕ) → ℕ → ℕ → Shape → Bool
is_table_fault memory base size shape =
    not (size == length shape.segments) || nat_lt (2 ^ 64) (base + 16 * size) || not (lists memory base shape.segments)
