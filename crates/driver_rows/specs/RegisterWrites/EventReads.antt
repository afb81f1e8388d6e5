-- The event ring, and its counts after a write of ERDP
use Rattle.std.specs.Prelude.{Option, is_some, ◌≡◌, ◌==◌, ◌||◌, not, Bool, ℕ, true}
use Rattle.segments.specs.ShapeValue.{Shape}
use Rattle.traces.specs.declared.header.Header.{Header}
use Rattle.traces.specs.Header.{event_ring, event_shape}
use Rattle.event_ring.specs.EventPlaceValue.{EventState}
use Rattle.event_ring.specs.EventRing.{position_from, erdp_address}
use Rattle.segments.specs.Places.{address_of}
use Rattle.traces.specs.Register.{register_or_zero}
use Rattle.traces.specs.declared.register.Register.TheVariants.{Erdp}
use Rattle.ownership_rules.specs.Registers.{is_wrong_size}
use Rattle.ring_knowledge.specs.Known.{Known}
use Rattle.trace_record.specs.FollowsTrace.{FollowsEvents}

-- the counts after ERDP was written
abbrev pub IsMoved : Header → Known → Option EventState → ℕ → Type 0
IsMoved h k o value = FollowsEvents h (record k { dequeue = position_from (event_shape h) k.dequeue (erdp_address value) }) o

-- there is an event ring, and it has this shape
pub record IsEventRing (h : Header) (shape : Shape) : Type 0 where
  pub here : is_some (event_ring h) ≡ true
  pub same : shape ≡ event_shape h

-- the last ERSTSZ isn't the number of the event ring's segments, or the last ERDP names another place than the first
abbrev pub Wrong : Header → Known → Bool
Wrong h k = is_wrong_size h k || not (erdp_address (register_or_zero k.register Erdp) == address_of (event_shape h) 0)
