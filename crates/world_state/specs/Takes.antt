-- The takes of a ring, and which positions they should have had
use Rattle.std.specs.Prelude.{ℕ, ◌+◌, ◌==◌, ◌&&◌, ◌||◌, if◌then◌else◌, Bool, true, false, not, List, [], ◌∷◌, ◌++◌, drop, find, unwrap_or, Option, Some, None}
use Rattle.std.specs.List.{range_with_len}
use Rattle.trb.specs.declared.block.Block.{Block}
use Rattle.trb.specs.Block.{data_value, has_event_data, has_value, pointer, with_cycle, same_words}
use Rattle.segments.specs.ShapeValue.{Shape}
use Rattle.segments.specs.Places.{place_count, address_of, cycle_of, is_crossing, link_address}
use Rattle.segments.specs.Descriptors.{DeclaredBlock, declared_at}
use Rattle.world_state.specs.declared.take.Take.{Take}
use Rattle.world_state.specs.World.{World, RingEvent, Took, Placed}

-- what an event may tell of a take: its address, and the value of an Event Data block
unfoldable pub take_of : ℕ → Block → Take
take_of a b = record { address = a; value = data_value b }

-- the takes, the oldest first
unfoldable pub takes_of : List RingEvent → List Take
takes_of [] = []
takes_of (Took a b n ∷ older) = takes_of older ++ take_of a b ∷ []
takes_of (Placed a ∷ older) = takes_of older

-- a ring's takes that weren't reported, the oldest first
unfoldable pub unreported : World → ℕ → List Take
unreported w r = drop (w.reported r) (takes_of (w.events r))

-- the event names the take: by ED its value, else its address
unfoldable pub names : Block → Take → Bool
names event take = if has_event_data event then has_value (pointer event) take.value else take.address == pointer event

-- the event names the last take; by ED it names the oldest with its value, so that has to be the last
unfoldable pub names_last : Block → List Take → Bool
names_last event [] = false
names_last event (take ∷ []) = names event take
names_last event (take ∷ next ∷ rest) = not (has_event_data event && names event take) && names_last event (next ∷ rest)

-- the address names the place of position p, by its block or by the Link before it
unfoldable pub is_place : Shape → ℕ → ℕ → Bool
is_place shape a p = address_of shape p == a || (is_crossing shape p && link_address shape p == a)

-- the least position from n on at the place that an address names
unfoldable pub first_at : Shape → ℕ → ℕ → ℕ
first_at shape a n = unwrap_or (find (is_place shape a) (range_with_len n (place_count shape))) n

-- the position of a ring's next take: after a binding or move the least one there, not before what was taken or placed; else the next one
unfoldable pub next_take : Shape → List RingEvent → ℕ
next_take shape [] = 0
next_take shape (Took a b n ∷ older) = next_take shape older + 1
next_take shape (Placed a ∷ older) = first_at shape a (next_take shape older)

unfoldable pub was_placed : List RingEvent → Bool
was_placed (Placed a ∷ older) = true
was_placed _ = false

-- the words of a take are those that were declared at position p, with the cycle of p
unfoldable pub is_as_declared : Shape → Option DeclaredBlock → ℕ → Block → Bool
is_as_declared shape None p b = false
is_as_declared shape (Some d) p b = same_words b (with_cycle d.block (cycle_of shape p))

-- what is declared at the position of ring r's next take
unfoldable pub declared_next : Shape → World → ℕ → Option DeclaredBlock
declared_next shape w r = declared_at (w.queue r) (w.lengths r) (next_take shape (w.events r))
