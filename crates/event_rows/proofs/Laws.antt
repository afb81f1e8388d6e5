-- What the answers cite: the words, and this crate's lemmas
pub use Rattle.event_rows.proofs.CommandCompletions.BoundBehind.{bound_behind, ending_fits}
pub use Rattle.event_rows.proofs.CommandCompletions.Finished.{completed_is, devices_disabled, devices_failed, devices_others, done, done_given, ended_is, has_next, has_room, may_change, slots_of, stop_keeps_rings, stops_not, unfinished_is}
pub use Rattle.event_rows.proofs.CommandCompletions.Followed.{followed_behind}
pub use Rattle.event_rows.proofs.CommandCompletions.Numbered.{held_with, held_without, moved_with, moved_without, passed_with}
pub use Rattle.event_rows.proofs.CommandCompletions.Placed.{all_done, may_move, one_done, placed_rings, pointed_ring}
pub use Rattle.event_rows.proofs.CommandCompletions.Succeeded.{devices_only, success_by}
pub use Rattle.event_rows.proofs.LowerLaws.{Among, among_slots, answers_other, commanded, commands_complete, completion_is, early, ended_devices, finished_rest, its_ring, its_type, later, no_endpoint_above, no_endpoint_ring, no_stop, none_completes, none_finishes, none_named, none_of, on_failure, on_success, put_none, report_is, reported_at, rings_same, said_well, served, stop_on, succeeds_is, typed_all, typed_next, typed_none, typed_one}
pub use Rattle.event_rows.proofs.TransferEvents.Noted.{follows_read, may_report, still_follows}
pub use Rattle.event_rows.proofs.Words.{Areas, Command, Config, ConfigureEndpoint, Disables, DriverKeeps, Dropped, FollowsDevices, FollowsEvents, FollowsPlaces, FollowsRing, FollowsRings, FollowsTrace, FollowsUnfinished, HasDone, HasRoom, Header, HoldsAreas, HoldsBound, IsHeader, IsWithRecord, Known, List, MayChange, MayChangeAll, MayMoveTo, MayPoint, MayReport, Option, Places, Placing, Reaches, Ring, RingSet, Shape, SlotGoesOn, Some, Stopped, TraceRecord, UnfinishedCommands, View, [], adds_end, adds_next, after, among_at, ap, arith, ceiling, code_told, command_found, command_id, device_context_bytes, device_contexts, driven, endpoint, eq-eqb, false, filter_map, found_at, get_or, get_or_from_slice_get, has_commands, has_isochronous, has_record, if◌then◌else◌, input_add_flag, input_context_bytes, inputs_of, is_command_kind, is_data_below, is_dropped, is_isochronous, is_of_service, is_slot_enabled, is_stop_spot, is_stopping, length, may_answer_slot, named_by, nat_le, nat_lt, ne_eqb, next_is, no_command_ring, none_below, not, number_of, placed_by_context, places_from, read_at, refl, register_or_zero, reported, ring_having, ring_placed, shape_of, shape_there, slice_get-get_or, slot, subst, succeeded_if, sym, true, typed_by_context, unfinished, ℕ, ◌%◌, ◌&&◌, ◌+◌, ◌/◌, ◌==◌, ◌^◌, ◌∙◌, ◌∷◌, ◌≡◌}
unfoldable pub use Rattle.event_rows.proofs.Words.{added_endpoints, addressed, can_finish, can_report, can_succeed, changed_by, changed_by_all, changes, command_at, completed, configured, disabled, held_at_ceiling, in_state, is_stopping_now, moved, next_command, on_ring, pointed, slots, stop_ended, transferred, typed}
