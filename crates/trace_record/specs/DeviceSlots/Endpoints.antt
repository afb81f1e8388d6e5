-- What becomes of what is kept of one endpoint: xHCI 4.7, 4.8.3, 4.6
use Rattle.std.specs.Prelude.{ℕ, ◌&&◌, if◌then◌else◌, Bool, true, false, Option, Some, None, is_some, nat_le}
use Rattle.trb.specs.CompletionCode.{is_success, is_halting, is_trb_error, is_stopping}
use Rattle.commands.specs.declared.state.EndpointState.{EndpointState}
use Rattle.commands.specs.declared.state.EndpointState.TheVariants.{Disabled as Off, Running, Halted, Error}
use Rattle.commands.specs.States.{is_off, is_stopped}
use Rattle.commands.specs.Changes.{is_above_control}
use Rattle.contexts.specs.Contexts.{has_flag}
use Rattle.trace_record.specs.declared.device_record.kept.Endpoint.{Endpoint}
use Rattle.trace_record.specs.declared.device_record.disabling.Named.{Named}
use Rattle.trace_record.specs.declared.device_record.disabling.Named.TheVariants.{All, AboveControl, Dropped}

-- its doorbell is rung
abbrev pub rung_endpoint : Endpoint → Endpoint
rung_endpoint e = if is_some e.ring && is_stopped e.state then record e { state = Running } else e

-- a Transfer Event with this code is read
abbrev pub transferred_endpoint : ℕ → Endpoint → Endpoint
transferred_endpoint code e =
    if is_success code then e else
    if is_halting code then record e { state = Halted; must_move = true } else
    if is_trb_error code then record e { state = Error } else
    if is_stopping code then record e { stop_seen = true } else e

-- of the ring that has the block at a pointer: a Disabled endpoint gets it, and any other keeps its own
abbrev pub ring_got : EndpointState → Option ℕ → Option ℕ
ring_got state ring = if is_off state then ring else None

abbrev pub with_ring : Option ℕ → Option ℕ → Option ℕ
with_ring kept None = kept
with_ring kept (Some r) = Some r

-- it is in this state, with the ring that it gets or else its own
abbrev pub placed_endpoint : Endpoint → Option ℕ → EndpointState → Endpoint
placed_endpoint e gets new = record e { state = new; ring = with_ring e.ring gets; must_move = false }

-- it is Disabled and has no ring, where that is told
abbrev pub turned_off : Bool → Endpoint → Endpoint
turned_off true e = record e { state = Off; ring = None }
turned_off false e = e

-- the endpoints that a command disables
abbrev pub named_by : Named → ℕ → Bool
named_by All i = true
named_by AboveControl i = is_above_control i
named_by (Dropped flags) i = nat_le 2 i && has_flag flags i
