-- How much of a ring is given, and how far its controller may have gone: xHCI 4.9.2, 4.6.9
use Rattle.std.specs.Prelude.{ℕ, suc, zero, ◌+◌, ◌==◌, ◌&&◌, ◌||◌, if◌then◌else◌, Bool, false, not, nat_le, nat_lt, is_none, min, unwrap_or, List, Option, option_and_then, option_map, find, slice_get, ◌-◌}
use Rattle.std.specs.List.{range_with_len}
use Rattle.trb.specs.declared.block.Block.{Block}
use Rattle.trb.specs.Block.{data_value, has_event_data, has_value, pointer}
use Rattle.segments.specs.declared.spot.Spot.{Spot}
use Rattle.segments.specs.declared.spot.Spot.TheVariants.{Data, Link}
use Rattle.segments.specs.ShapeValue.{Shape}
use Rattle.segments.specs.Places.{place_count, is_crossing}
use Rattle.segments.specs.Spots.{named_spot}
use Rattle.segments.specs.RingView.{RingView, declared, floor_number}

-- the crossing to position q, if there is one, was given
unfoldable pub is_way_given : Shape → RingView → ℕ → Bool
is_way_given shape v q = not (is_crossing shape q) || v.crossed q

unfoldable pub is_step_given : Shape → RingView → ℕ → Bool
is_step_given shape v q = v.given q && is_way_given shape v q

unfoldable pub first_not_given : Shape → RingView → ℕ → ℕ → ℕ
first_not_given shape v zero q = q
first_not_given shape v (suc n) q = if is_step_given shape v q then first_not_given shape v n (q + 1) else q

-- the greatest number below which all positions, and all crossings to them, are given
unfoldable pub given_count : Shape → RingView → ℕ
given_count shape v = first_not_given shape v (floor_number v + place_count shape) 0

-- up to which number the controller may have gone: all that is given where the ring is open, else where it is held
unfoldable pub ceiling : Shape → RingView → ℕ
ceiling shape v = unwrap_or v.held (given_count shape v)

unfoldable pub is_open : RingView → Bool
is_open v = is_none v.held

-- the spot that an event names by an address: the least one from the floor on, up to what is declared
unfoldable pub named : Shape → RingView → ℕ → Option Spot
named shape v address = named_spot shape v.floor (declared v) address

-- the value of the Event Data block that is declared at a position, if it is one: xHCI 6.4.4.2
unfoldable pub data_at : List Block → ℕ → Option ℕ
data_at queue p = option_and_then data_value (slice_get queue p)

-- the spot that an event names by a value: the least position from the floor on, up to what is declared, with an Event Data block of this value
unfoldable pub named_data : RingView → ℕ → Option Spot
named_data v value = option_map Data (find (λ p. has_value value (data_at v.queue p)) (range_with_len (floor_number v) (declared v - floor_number v)))

-- the spot that a Transfer Event names: by ED that of the block with its value, else that at its address: xHCI 4.11.5.2, 6.4.2.1
abbrev pub named_by : Shape → RingView → Block → Option Spot
named_by shape v event = if has_event_data event then named_data v (pointer event) else named shape v (pointer event)

-- the spot is a block with a number below n
unfoldable pub is_data_below : ℕ → Spot → Bool
is_data_below n (Data p) = nat_lt p n
is_data_below n (Link q) = false

-- where a controller may have stopped
unfoldable pub is_stop_spot : Shape → RingView → Spot → Bool
is_stop_spot shape v (Data p) = nat_lt p (given_count shape v) || (p == given_count shape v && is_way_given shape v p)
is_stop_spot shape v (Link q) = nat_le q (given_count shape v)

-- a stopped controller may have begun the block that is named
unfoldable pub stopped_number : Shape → RingView → Spot → ℕ
stopped_number shape v (Data p) = min (p + 1) (given_count shape v)
stopped_number shape v (Link q) = q
