-- What contracts see of an event ring that is posted to and read from
use Rattle.std.specs.Prelude.{◌≢◌, ℕ, ◌≤◌, ◌<◌, ◌+◌, ◌-◌, ◌^◌, ◌==◌, ◌&&◌, Bool, nat_lt}
use Rattle.trb.specs.declared.block.Block.{Block}
use Rattle.trb.specs.Block.{cycle}
use Rattle.segments.specs.ShapeValue.{Shape}
use Rattle.segments.specs.Places.{place_count, address_of, cycle_of}
use Rattle.event_ring.specs.EventRing.{EventCounts, AreInOrder, has_room, erdp_address, position_from, is_reached_within}

pub record EventState : Type 0 where
  pub shape : Shape
  pub counts : EventCounts

-- an unread event is never posted over
abbrev pub IsInOrder : EventState → Type 0
IsInOrder s = AreInOrder (place_count s.shape) s.counts

-- one more event may be posted: there is room, and the count stays below 2^64
abbrev pub may_post : EventState → Bool
may_post s = has_room (place_count s.shape) s.counts.posted s.counts.dequeue && nat_lt (s.counts.posted + 1) (2 ^ 64)

abbrev pub after_post : EventState → EventState
after_post s = record s { counts = record s.counts { posted = s.counts.posted + 1 } }

-- the place that is posted to is that of no event from ERDP's position on
abbrev pub PostsOverNone : EventState → Type 0
PostsOverNone s =
    (q : ℕ) → s.counts.dequeue ≤ q → q < s.counts.posted → address_of s.shape q ≢ address_of s.shape s.counts.posted

-- the next event to read: its Cycle bit is that of its position, and the count stays below 2^64
abbrev pub is_next_event : EventState → Block → Bool
is_next_event s block = cycle block == cycle_of s.shape s.counts.reads && nat_lt (s.counts.reads + 1) (2 ^ 64)

abbrev pub after_read : EventState → EventState
after_read s = record s { counts = record s.counts { reads = s.counts.reads + 1 } }

-- what is written to ERDP names an event place up to the position that is read next
abbrev pub may_dequeue : EventState → ℕ → Bool
may_dequeue s value = is_reached_within s.shape s.counts.dequeue (s.counts.reads - s.counts.dequeue) (erdp_address value)

-- the position that it names
abbrev pub dequeued_at : EventState → ℕ → ℕ
dequeued_at s value = position_from s.shape s.counts.dequeue (erdp_address value)

abbrev pub after_erdp : EventState → ℕ → EventState
after_erdp s value = record s { counts = record s.counts { dequeue = dequeued_at s value } }
