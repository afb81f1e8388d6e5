-- Posts: the controller writes an event to the Event Ring: xHCI 4.8.3, 4.9.4, 4.10.2, 6.4.2
use Rattle.std.specs.Prelude.{ℕ, ◌+◌, ◌-◌, ◌==◌, ◌&&◌, if◌then◌else◌, Bool, true, false, not, length, nat_lt, Option, Some, None, position, option_map}
use Rattle.guest_memory.specs.Memory.{put, put_pair}
use Rattle.trb.specs.declared.block.Block.{Block}
use Rattle.trb.specs.Block.{cycle, kind, pointer, code, slot, endpoint}
use Rattle.trb.specs.Kind.{is_transfer_event, is_other_event}
use Rattle.trb.specs.CompletionCode.{counted_code, is_success, is_halting, is_of_service, is_trb_error, is_stopping}
use Rattle.segments.specs.Places.{address_of, cycle_of}
use Rattle.commands.specs.Command.{command_of, is_stop_of}
use Rattle.commands.specs.declared.state.EndpointState.{EndpointState}
use Rattle.commands.specs.declared.state.EndpointState.TheVariants.{Halted, Error}
use Rattle.commands.specs.States.{is_running}
use Rattle.event_ring.specs.EventRing.{has_room}
use Rattle.traces.specs.declared.header.Header.{Header}
use Rattle.traces.specs.Header.{event_shape, event_size}
use Rattle.traces.specs.Versions.{has_isoch, may_have_data}
use Rattle.world_state.specs.World.{World, UnderWay, stored_block}
use Rattle.world_state.specs.Takes.{names, names_last, unreported}

module _ (h : Header) where
  -- an event ring is declared, the controller runs, there is room, and the words have the right Cycle bit
  unfoldable pub can_post : World → Block → Bool
  can_post w b =
      nat_lt 0 (event_size h) && w.started && has_room (event_size h) w.posted w.dequeue && cycle b == cycle_of (event_shape h) w.posted

  unfoldable pub posted : World → Block → World
  posted w b = record (stored_block w (address_of (event_shape h) w.posted) b) { posted = w.posted + 1 }

  unfoldable pub with_reported : World → ℕ → ℕ → World
  with_reported w r n = record w { reported = put w.reported r n }

  -- success: names an unreported take, the oldest with that address, or that value; it and those before it are reported
  unfoldable pub report_success : World → ℕ → Block → Option World
  report_success w r b = option_map (λ n. with_reported w r (w.reported r + n + 1)) (position (names b) (unreported w r))

  -- an error: names the last take, unreported yet; the endpoint's state is set and its ring inactive
  unfoldable pub report_error : World → ℕ → ℕ → ℕ → Block → EndpointState → Option World
  report_error w s i r b state =
      if is_running (w.endpoint_state s i) && w.is_active r && names_last b (unreported w r)
      then Some (record (with_reported w r (w.reported r + length (unreported w r))) {
        is_active = put w.is_active r false;
        endpoint_state = put_pair w.endpoint_state s i state;
      })
      else None

  -- a Stop Endpoint for this endpoint is under way
  unfoldable pub is_stop_under_way : ℕ → ℕ → Option UnderWay → Bool
  is_stop_under_way s i None = false
  is_stop_under_way s i (Some u) = is_stop_of s i (command_of u.block)

  unfoldable pub with_stopped : Option UnderWay → Option UnderWay
  with_stopped None = None
  with_stopped (Some u) = Some (record u { has_stopped = true })

  unfoldable pub stopped_with : World → ℕ → ℕ → World
  stopped_with w r n = record (with_reported w r n) { is_active = put w.is_active r false; under_way = with_stopped w.under_way }

  -- stopped: names the last take if it is unreported, and those before it are reported; else the pointer, and all are
  unfoldable pub report_stop : World → ℕ → ℕ → ℕ → Block → Option World
  report_stop w s i r b =
      if not (is_stop_under_way s i w.under_way && is_running (w.endpoint_state s i) && w.is_active r) then None
      else if names_last b (unreported w r) then Some (stopped_with w r (w.reported r + length (unreported w r) - 1))
      else if pointer b == w.pointer_of r then Some (stopped_with w r (w.reported r + length (unreported w r)))
      else None

  unfoldable pub report_code : World → ℕ → ℕ → ℕ → ℕ → Block → Option World
  report_code w c s i r b =
      if is_success c then report_success w r b
      else if is_halting c then report_error w s i r b Halted
      else if is_trb_error c then report_error w s i r b Error
      else if is_stopping c then report_stop w s i r b
      else None

  -- how the code of an event counts
  unfoldable pub code_posted : World → Block → ℕ
  code_posted w b = counted_code (has_isoch h.version && w.isochronous (slot b) (endpoint b)) (code b)

  -- one that tells of the service of its endpoint names no block, whatever its words say
  unfoldable pub reported_on : World → Block → Option ℕ → Option World
  reported_on w b None = None
  reported_on w b (Some r) =
      if has_isoch h.version && is_of_service (code b) then Some (posted w b)
      else report_code (posted w b) (code_posted w b) (slot b) (endpoint b) r b

  -- a Transfer Event for an endpoint that has a ring
  unfoldable pub reported : World → Block → Option World
  reported w b =
      if can_post w b && is_transfer_event (kind b) && may_have_data h.version b then reported_on w b (w.ring_of (slot b) (endpoint b)) else None

  unfoldable pub other_posted : World → Block → Option World
  other_posted w b = if can_post w b && is_other_event (kind b) then Some (posted w b) else None
