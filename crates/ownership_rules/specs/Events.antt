-- The rules of an event that was read (`ev`): which events no controller can have posted: xHCI 4.5.3, 4.6, 4.8.3, 4.9.4, 4.10, 6.4.2
use Rattle.std.specs.Prelude.{ℕ, ◌-◌, ◌==◌, ◌&&◌, ◌||◌, if◌then◌else◌, Bool, false, not, List, [], ◌∷◌, nat_lt, Option, Some, None}
use Rattle.trb.specs.declared.block.Block.{Block}
use Rattle.trb.specs.declared.kind.BlockKind.{BlockKind}
use Rattle.trb.specs.declared.kind.BlockKind.TheVariants.{TransferEvent, CommandCompletion}
use Rattle.trb.specs.Block.{cycle, kind, pointer, code, slot, endpoint}
use Rattle.trb.specs.Kind.{is_event, is_transfer_event}
use Rattle.trb.specs.CompletionCode.{is_isoch_error, is_of_service, is_success, is_halting, is_stopping, is_trb_error, is_transfer_code}
use Rattle.segments.specs.declared.spot.Spot.{Spot}
use Rattle.segments.specs.Places.{address_of, cycle_of}
use Rattle.segments.specs.Ceiling.{ceiling, is_data_below, is_open, is_stop_spot}
use Rattle.commands.specs.declared.command.Command.{Command}
use Rattle.commands.specs.declared.command.Command.TheVariants.{StopEndpoint}
use Rattle.commands.specs.Command.{is_stop_of, may_answer_slot}
use Rattle.commands.specs.States.{can_succeed, is_off, is_running}
use Rattle.traces.specs.declared.header.Header.{Header}
use Rattle.traces.specs.declared.register.Register.TheVariants.{Config}
use Rattle.traces.specs.Header.{shape_of, command_id, event_shape, event_size}
use Rattle.traces.specs.Register.{register_or_zero}
use Rattle.traces.specs.Versions.{has_isoch, may_have_data}
use Rattle.ring_knowledge.specs.Known.{Known}
use Rattle.ring_knowledge.specs.Rings.{RingSpot, code_told, command_at, event_at, next_command}
use Rattle.ownership_rules.specs.Refusal.{Test}
use Rattle.ownership_rules.specs.declared.refusal.Refusal.TheVariants.{ImpossibleEvent, NotInProfile}

-- the endpoint is Running, and its ring open
unfoldable pub is_working : Known → ℕ → ℕ → ℕ → Bool
is_working k s i r = is_running (k.endpoint_state s i) && is_open (k.ring r)

-- a Stop Endpoint whose Stopped event was read
unfoldable pub was_stop_seen : Known → Command → Bool
was_stop_seen k (StopEndpoint s i) = k.stop_seen s i
was_stop_seen k _ = false

-- a controller can have finished the command with this event
unfoldable pub can_finish : Known → Block → Option Command → Bool
can_finish k b None = false
can_finish k b (Some c) =
    may_answer_slot (Some c) (slot b)
    && (if code b == 1 then can_succeed k.slot_state k.endpoint_state (register_or_zero k.register Config) (slot b) c else not (was_stop_seen k c))

module _ (h : Header) where
  -- a code of the profile: those of isochronous endpoints, and of their service, only where the version has such transfers
  unfoldable pub is_code_of_profile : Known → Block → Bool
  is_code_of_profile k b =
      is_transfer_code (code b)
      || (has_isoch h.version && (is_of_service (code b) || (k.isochronous (slot b) (endpoint b) && is_isoch_error (code b))))

  -- a value (ED) only where the version and the code have it, and a code of the profile
  unfoldable pub is_in_profile : Known → Block → Bool
  is_in_profile k b = may_have_data h.version b && is_code_of_profile k b

  -- the controller may have come to the next command
  unfoldable pub may_be_taken : Known → Bool
  may_be_taken k = nat_lt (next_command h k) (ceiling (shape_of h (command_id h)) (k.ring (command_id h)))

  -- the next command to be finished is a Stop Endpoint for this endpoint
  unfoldable pub is_stopping_now : Known → ℕ → ℕ → Bool
  is_stopping_now k s i = may_be_taken k && is_stop_of s i (command_at h k (next_command h k))

  -- a controller can have posted a Transfer Event with code c for this endpoint at this spot of its ring
  unfoldable pub can_report : Known → ℕ → ℕ → ℕ → ℕ → Spot → Bool
  can_report k c s i r t =
      if is_success c then is_data_below (ceiling (shape_of h r) (k.ring r)) t
      else if is_halting c || is_trb_error c then is_data_below (ceiling (shape_of h r) (k.ring r)) t && is_working k s i r
      else is_stopping c && (is_working k s i r && is_stopping_now k s i && is_stop_spot (shape_of h r) (k.ring r) t)

  unfoldable pub can_report_at : Known → Block → Option RingSpot → Bool
  can_report_at k b None = is_of_service (code b)
  can_report_at k b (Some at) = can_report k (code_told h k b) (slot b) (endpoint b) at.ring at.spot

  unfoldable pub is_impossible_transfer : Known → Block → Bool
  is_impossible_transfer k b =
      is_in_profile k b && (is_off (k.endpoint_state (slot b) (endpoint b)) || not (can_report_at k b (event_at h k b)))

  unfoldable pub is_impossible_completion : Known → Block → Bool
  is_impossible_completion k b =
      not (may_be_taken k) || not (pointer b == address_of (shape_of h (command_id h)) (next_command h k))
      || code b == 0 || not (can_finish k b (command_at h k (next_command h k)))

  unfoldable pub is_impossible_by_kind : Known → BlockKind → Block → Bool
  is_impossible_by_kind k TransferEvent b = is_impossible_transfer k b
  is_impossible_by_kind k CommandCompletion b = is_impossible_completion k b
  is_impossible_by_kind k _ b = false

  -- the ring can't hold one more unread event
  unfoldable pub is_past_room : Known → Bool
  is_past_room k = nat_lt (event_size h - 2) (k.reads - k.dequeue)

  unfoldable pub is_impossible : Known → Block → Bool
  is_impossible k b =
      not k.started || is_past_room k || not (cycle b == cycle_of (event_shape h) k.reads) || not (is_event (kind b))
      || is_impossible_by_kind k (kind b) b

  unfoldable pub event_tests : Known → Block → List Test
  event_tests k b = (ImpossibleEvent, is_impossible k b) ∷ (NotInProfile, is_transfer_event (kind b) && not (is_in_profile k b)) ∷ []
