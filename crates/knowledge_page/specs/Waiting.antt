-- What waits on a ring, and of the Event Ring
use Rattle.std.specs.Prelude.{ℕ, ◌+◌, ◌^◌, ◌==◌, ◌&&◌, ◌||◌, if◌then◌else◌, Bool, not, nat_lt, Option, Some, None}
use Rattle.segments.specs.ShapeValue.{Shape}
use Rattle.segments.specs.RingView.{RingView, declared, is_handed_over}
use Rattle.segments.specs.Ceiling.{given_count, is_open, is_way_given}
use Rattle.segments.specs.Places.{place_count}
use Rattle.event_ring.specs.EventRing.{has_room}
use Rattle.event_ring.specs.EventPlaceValue.{EventState}
use Rattle.knowledge_page.specs.declared.waiting_rings.Missing.{Missing}
use Rattle.knowledge_page.specs.declared.waiting_rings.Missing.TheVariants.{Link, Trb}

-- of the number from which on a ring isn't given: the Link before it, where its TRB is handed over; or its TRB, where that is submitted
abbrev pub missing : Shape → RingView → Option Missing
missing shape v =
    let n = given_count shape v in
    if is_handed_over v n then (if is_way_given shape v n then None else Some (Link n)) else (if nat_lt n (declared v) then Some (Trb n) else None)

-- a TRB that a row handed over waits for the doorbell that another one rang last: the ring is held, or it wasn't rung from the row on
abbrev pub needs_bell : RingView → ℕ → ℕ → Bool
needs_bell v row rung = not (is_open v) || nat_lt rung row

-- even if no more events were posted than were read, there is room for no other
abbrev pub is_full : EventState → Bool
is_full e = nat_lt (e.counts.reads + 1) (2 ^ 64) && not (has_room (place_count e.shape) e.counts.reads e.counts.dequeue)

-- ERDP has given an event back, or none was read
abbrev pub is_back : EventState → Bool
is_back e = e.counts.reads == 0 || nat_lt 0 e.counts.dequeue
