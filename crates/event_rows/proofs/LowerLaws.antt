-- Words and lemmas, passed on to the files above them
pub use Rattle.event_rows.proofs.CommandCompletions.CommandRings.{commands_complete, completion_is, none_completes}
pub use Rattle.event_rows.proofs.CommandCompletions.Ends.{answers_other, none_finishes, on_failure, on_success, said_well, succeeds_is}
pub use Rattle.event_rows.proofs.CommandCompletions.OneRing.{IsOnRing, bound_moves, on_held, on_moved, one_at, rings_elsewhere, rings_same, rings_with}
pub use Rattle.event_rows.proofs.CommandCompletions.Rest.{IsRest, devices_by, disable_one, ended_devices, finished_rest, others_none}
pub use Rattle.event_rows.proofs.CommandCompletions.Slots.{Among, among_slots, put_none}
pub use Rattle.event_rows.proofs.CommandCompletions.Types.{its_type, no_endpoint_above, none_of, typed_all, typed_next, typed_none, typed_one}
pub use Rattle.event_rows.proofs.TransferEvents.EventCounts.{early, later}
pub use Rattle.event_rows.proofs.TransferEvents.Reports.{commanded, its_ring, no_endpoint_ring, no_stop, none_named, not_command, report_is, reported_at, served, stop_on, transfer_driver}
pub use Rattle.event_rows.proofs.Words.{AreOffAs, AreSlots, Areas, AtFloor, Block, Bool, Change, Command, CommandKeeps, CompletionFacts, Config, ConfigureEndpoint, DeviceRecord, DisableSlot, Disables, DriverKeeps, Dropped, EndpointState, EventState, FollowsDevices, FollowsEvents, FollowsPlaces, FollowsRegisters, FollowsRing, FollowsRings, FollowsTrace, FollowsUnfinished, HasDone, HasRoom, HasWords, Header, Holds, HoldsAreas, HoldsBound, HoldsSoiled, IsAmong, IsBeside, IsDriverRing, IsHeader, IsNamedAt, IsNextGiven, IsOnly, IsWithRecord, Known, List, MayChange, MayChangeAll, MayMoveTo, MayPoint, MayReport, NamedSpot, None, Option, Places, Placing, Reaches, ReachesTarget, RegisterRecord, Ring, RingChange, RingKeeps, RingRecord, RingSet, RingView, Shape, SlotGoesOn, Some, Spot, StopEndpoint, Stopped, TraceRecord, UnfinishedCommands, View, [], adds_end, adds_next, after, among_at, and_parts, ap, area_parts, arith, bad_command_context, below_is, by_completion, ceiling, ceiling_given, ceiling_within, changed, code, code_told, command_found, command_holds, command_id, command_id_is, command_is_ring, command_ring, cond-false, cond-true, cons_option, declared, device_context_bytes, device_contexts, driven, endpoint, endpoints_of, eq-eqb, false, false≢true, filter_map, finish_elsewhere, floor_number, followed, follows_beside, found_at, fun_ext, get_or, get_or_from_slice_get, given_count, given_count_declared, has_commands, has_isochronous, has_record, if◌then◌else◌, input_add_flag, input_context_bytes, inputs_of, is_command_kind, is_data_below, is_driver_kind, is_dropped, is_halting, is_impossible_completion, is_isochronous, is_of_service, is_off, is_slot_enabled, is_stop_spot, is_stopping, is_success, is_transfer_code, is_trb_error, length, may_answer_slot, named, named_ahead, named_by, named_context, named_if_taken, nat_le, nat_lt, nat_tests, ne_eqb, next_at_floor, next_is, next_unfinished, no_command_ring, none-some, none_below, not, number, number_in, number_of, or_parts, placed_by_context, places_from, pointer, position, put, put_on, read_at, refl, register_or_zero, reported, ring_elsewhere, ring_having, ring_here, ring_placed, ring_shape, rings_of, rules, same_Some, same_blocks, set_on, shape_allowed, shape_of, shape_there, slice_get, slice_get-get_or, slice_get_within, slice_set, slot, still_places, subst, succeeded_if, sym, target, transfer_stays, true, typed_by_context, unfinished, unfinished_completed, unfinished_same, ℕ, ◌%◌, ◌&&◌, ◌+◌, ◌/◌, ◌<◌, ◌==◌, ◌^◌, ◌||◌, ◌∙◌, ◌∷◌, ◌≡◌, ◌≤◌}
unfoldable pub use Rattle.event_rows.proofs.Words.{added_endpoints, addressed, broken_off, can_finish, can_report, can_report_at, can_succeed, changed_by, changed_by_all, changes, command_at, completed, configured, disabled, event_at, finished, has_bad_context, held_at_ceiling, in_state, is_impossible_transfer, is_in_profile, is_stopping_now, moved, next_command, on_ring, passed, pointed, slots, spot_on, stop_ended, stopped_at, succeeded, transfer_read, transferred, transferred_at, typed}
