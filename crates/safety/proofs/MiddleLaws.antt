-- Words and lemmas, passed on to the files above them
pub use Rattle.safety.proofs.AlikeEvents.Alike.{Alike, RingAlike, ceiling_more, held_alike, held_same, reached_alike}
pub use Rattle.safety.proofs.AlikeEvents.AlikeTransfers.{both_sides, chain_from, move_put, seen_put, state_put}
pub use Rattle.safety.proofs.DevicesKeep.AreaFacts.{AreaParts, apart_or_same, area_from, area_parts, clean_same, context_free, device_apart, device_free, devices_apart, entry_free, is_soiled_from, lease_free, not_in_device, not_in_other, overlap_turned, table_free, word_elsewhere}
pub use Rattle.safety.proofs.Reports.BrokenRing.{broken_at, broken_matches, broken_unreported, last_take}
pub use Rattle.safety.proofs.CommandsKeep.CommandsSame.{RingsStay, SameStates, context_good, context_same, ring_stays, same_stay}
pub use Rattle.safety.proofs.CommandsKeep.CommandsStay.{MovesAhead, OwnKeeps, PairKeeps, PlacesStay, RingsBeside, Standing, bound_still, commands_stay, own_beside, own_keeps, pair_keeps, still_restored}
pub use Rattle.safety.proofs.DevicesKeep.DeviceFrames.{devices_same, entry_same}
pub use Rattle.safety.proofs.Finishes.DisableChange.{disable_keeps}
pub use Rattle.safety.proofs.StepsLeave.DriverGoesOn.{declares_goes_on, declares_values, goes_same, opens_goes_on, writes_goes_on}
pub use Rattle.safety.proofs.RingsKeep.DriverRows.{declared_keeps, on_ring_keeps, on_ring_twice_keeps, register_keeps, ring_elsewhere, ring_here, rung_keeps, same_keeps, stands, status_keeps, written_keeps}
pub use Rattle.safety.proofs.StatesKeep.EndpointHistories.{finish_elsewhere, nothing_endpoints}
pub use Rattle.safety.proofs.StepsLeave.EndpointStates.{events_states, known_states, matches_states, stands_states, world_states}
pub use Rattle.safety.proofs.StatesKeep.Endpoints.{change_keeps, changes_elsewhere, fewer}
pub use Rattle.safety.proofs.Posts.EventRead.{event_clean, event_still, learned_read}
pub use Rattle.safety.proofs.Finishes.FinishKinds.{IsFinish, completion_kind, failed_read, failure_is, finish_is, let_go, next_known, none_after, none_waits, put_false, reached_is, seen_after, stop_ended_is, stopping_of}
pub use Rattle.safety.proofs.Finishes.FinishNext.{events_next, matches_next, stands_next}
pub use Rattle.safety.proofs.StepsLeave.FloorMoves.{floor_behind}
pub use Rattle.safety.proofs.CommandsKeep.GivenCommands.{added_above, are_free, content_good, fails_of}
pub use Rattle.safety.proofs.CommandsKeep.GivenRules.{GivenFacts, given_facts}
pub use Rattle.safety.proofs.Beneath.GivingBeneath.{RingBehind, crossed_same, crosses_before, given_same, gives_before, gives_behind}
pub use Rattle.safety.proofs.AlikeEvents.HeldWeaker.{weaker}
pub use Rattle.safety.proofs.LazyRuns.AllRead.{agrees_now, all_are_read, is_event_read, may_post}
pub use Rattle.safety.proofs.LazyRuns.CompletionSays.{CommandsOpen, CompletionSays, commands_open, completion_says}
pub use Rattle.safety.proofs.LazyRuns.Progress.{AreFew, all_given, bit, bit_clear, bit_most, bit_set, command_goal, command_value, driver_le, further_most, given_among, no_goal, no_more, none_of_driver, number_taken, off_driver, on_driver, ring_goal, same_given, total, total_grows, total_le, total_most, total_none, total_one, total_twice, transfer_value, two_goals}
unfoldable pub use Rattle.safety.proofs.LazyRuns.Progress.{come_to, of_driver, place_value, progress}
pub use Rattle.safety.proofs.Looks.LookRuns.{look_runs}
pub use Rattle.safety.proofs.Looks.LookSpots.{CrossDone, TakeDone, block_no_link, cross_done, link_is, take_done}
pub use Rattle.safety.proofs.LowerLaws.{AgreeIn, AllFail, AreNumbered, AtFloor, BellFacts, Beside, ChangeKeeps, Concerns, Crossable, EndpointStays, EndpointsStand, EventFacts, EventRing, HasRing, IsValued, KeepsCycles, KeepsValues, Late, LearnsRing, LeavesRest, Left, LiveScene, MovesStay, OnlyRing, RingGoesOn, SeenStand, SlotStands, SlotsStand, Starts, StatesMatch, StopsNext, Takeable, add_flag_same, added_below, added_indices, added_same, address_same, agrees_counted, any_of_map, aside, at_floor, at_number, at_pair, bad_command_context, bad_context_parts, behind_block, behind_link, bell_facts, bell_so, binds_ring_beside, both_keep, bound_on, bound_transfer, by_address, byte_apart, ceiling_declares, ceiling_given, ceiling_last, ceiling_open, clean_tests, clean_word, command_at_is, command_driver, command_found, command_is_ring, command_named, command_not_transfer, command_of-with_cycle, command_with, cond_is, configure_same, context_lies, crossable, cycle_same, declared_lingers, declared_so, dequeue_lingers, dequeue_so, driver_is, driver_ring, driver_test, drop_flag_same, drops_concerns, due_has_ring, each_fails, each_passes, endpoints_of, endpoints_part, endpoints_same, erdp_says, erdp_within, event_facts, event_no_transfer, event_ring_is, event_ring_size, events_only, excludes_turned, found_allowed, found_in, found_passes, free_or_same, from_parts, gives_up_keeps, has_ring, having_transfer, header_parts, held_from, held_keeps, held_more_same, held_more_twice, held_open, held_twice, in_filter_map, in_left, in_profile_is, in_range, in_right, is_ring_is, keeps_cycles, kept_coming, kept_going, kept_withdrawing, known_changed, laid, laid_here, laid_put, last, last_from, last_most, last_to, late_only, late_stored, leased_device, lingering, live_next, live_reached, live_row, live_step, live_with, made_so, map_same, matches_command, matches_learns, matches_with_reads, may_declare, memory_stored, moved_having, moves_declares, moves_stand, named_if_taken, named_in_run, named_no_service, named_still, named_value, names_address, names_ring, names_still, names_value, next_is, next_same, no_command_ring, no_events, no_places, no_service, nobodys_unmoved, none_crossed, none_given, none_has_256, none_in_range, none_is, none_keeps, none_lingers, none_of_both, none_of_ring, not_both, not_done, not_in_both, not_the_controllers, number_after, off_is, off_none, only_begun, only_crossed, only_taken, open_held, opens, other_ids, passes_at, passes_both, passes_held, passes_shown, phase_lingers, phase_so, placed_matches, placed_state, placed_unreported, pointer_same, put_at, put_off, put_same, reached_is_good, read_lingers, read_only, read_so, register_facts, register_same, register_starts, registered, ring_is, ring_not_event, ring_shape, ring_untouched, rings_of, rung_same, runs_leave, same_block_at, same_context, scribble_runs, seen_part, seen_same, set_view, shape_allowed, shape_is, shape_unmoved, slot_above, slots_part, slots_same, some_concerned, some_is, spot_ahead, spot_inside, spot_reached, spot_same, spot_told, stands_learns, stands_only, stands_with_reads, starts_written, states_match, status_same, stop_by_address, stop_is, stop_same, stops_drop_none, stops_is, takeable, target_still, tests_fail, together, told_alike, transfer_driver, transfer_not_command, transfer_ring, transfer_same, type_same, unchanged_stored, under_way_named, unfinished_fails, untouched_stays, with_reads, words_itself, world_changed, written_elsewhere, written_same, written_stays}
pub use Rattle.safety.proofs.StepsLeave.MatchesGoesOn.{KnownGoesOn, SameController, matches_go_on, same_controller}
pub use Rattle.safety.proofs.Finishes.MoveSpots.{MoveSpot, move_spot}
pub use Rattle.safety.proofs.CommandsKeep.MovesSame.{ahead_held, standing_same, unfinished_view}
pub use Rattle.safety.proofs.RingsKeep.NothingFree.{declared_free, free_same, opened_free}
pub use Rattle.safety.proofs.StatesKeep.NumberedChanges.{all_numbered, changes_numbered, command_numbered, same_numbered}
pub use Rattle.safety.proofs.CommandsKeep.OtherSlots.{IsPart, OtherSlots, both_others, on_others, same_others}
pub use Rattle.safety.proofs.RunKeeps.Phases.{halted_is, no_reset, started_is}
pub use Rattle.safety.proofs.Finishes.PlacedKnown.{binds_placed, moves_placed}
pub use Rattle.safety.proofs.Finishes.PlacedWorld.{placed_elsewhere, placed_here, placed_world, placed_world_is, rest_active, rest_still}
pub use Rattle.safety.proofs.Finishes.Placing.{PlacedTo, placed_keeps}
pub use Rattle.safety.proofs.Targets.Placings.{BoundThere, Ready, ReadyAt, address_ready, all_ready, at_rest_on, dropped, map_map, placed_there, ready_next, ring_at, still_places}
pub use Rattle.safety.proofs.Posts.Posted.{PostKeeps, post_keeps}
pub use Rattle.safety.proofs.Rows.ReadRow.{read_runs}
pub use Rattle.safety.proofs.Reports.ReportSuccess.{IsOfService, IsReport, ReportKeeps, event_named, mapped, possible, report_is, reported_can, runs_more, success_keeps, told_same, transfer_kind, where_bound}
pub use Rattle.safety.proofs.Reports.ReportedRing.{count, floor_unreported, low, open_takes}
pub use Rattle.safety.proofs.RingChanges.EventsAlike.{ChangesAlike, HasKept, HavesAlike, KeepsRings, NextAlike, changes_alike, event_at_alike, event_kept, on_alike, other, told_over, transfer_alike}
pub use Rattle.safety.proofs.RingChanges.LeftOut.{is_command, only_one}
pub use Rattle.safety.proofs.RingChanges.ListedRings.{all_kept, all_more, find_kept, found_kept, none_found, none_kept, overlaps_none, together_kept, together_more}
pub use Rattle.safety.proofs.RingChanges.NewRings.{found_before, found_new, found_still, new_ring_agrees, new_ring_header, new_ring_kept, view_keeps}
pub use Rattle.safety.proofs.RingChanges.OtherCommandRing.{AnotherRing, OtherWorld, another_ring_agrees, another_ring_kept, nothing_next, rested, state_same, unnamed}
pub use Rattle.safety.proofs.RingChanges.OtherEventRing.{AnotherEvents, another_events_agrees, another_events_kept, nothing_posted}
pub use Rattle.safety.proofs.RingChanges.OtherRings.{BindsAsBefore, IsAsBefore, OtherRings, forgetting_agrees, new_is_nobodys, other_rings_keep}
pub use Rattle.safety.proofs.RingChanges.Segments.{IsGood, block_shows, each_good, segment_some, touches_none, words_clean}
pub use Rattle.safety.proofs.Rows.RowFrames.{BellLeaves, DeclarationLeaves, RegisterLeaves, SameMemory, SameRegisters, SameSlots, StatusLeaves, WriteLeaves, bell_leaves, declaration_leaves, register_leaves, seen_asked, seen_done, status_leaves, write_leaves, written_view}
pub use Rattle.safety.proofs.Rows.RowRegister.{agrees_once_counted}
pub use Rattle.safety.proofs.Rows.RowRegisters.{phase_agrees, register_agrees}
pub use Rattle.safety.proofs.NoHarm.Safe.{block_found, safe, safe_from, stands_at}
pub use Rattle.safety.proofs.Rows.SameDriver.{SameDriver, SameGiven, both_drivers, change_same, completion_same, event_same, on_ring_same, view_after}
pub use Rattle.safety.proofs.Finishes.SlotChanges.{device_keeps, reset_keeps, slot_keeps, types_keeps}
pub use Rattle.safety.proofs.CommandsKeep.SlotCommands.{Binds, Commands, Has, OfCommand, changed_part, changed_slot, of_slot, success_others}
pub use Rattle.safety.proofs.Behind.SlotFrames.{GetsRing, SameSlot, placed_all, placed_leaves, placed_of_slot, resets_slot, stops_slot}
pub use Rattle.safety.proofs.StatesKeep.StatesChanges.{FitAll, Fits, RestsThere, change_stands, changes_stand}
pub use Rattle.safety.proofs.StatesKeep.StatesOneEndpoint.{OneEndpoint, OneSeen, one_seen, one_stands}
pub use Rattle.safety.proofs.StatesKeep.StatesOneSlot.{slot_addressed, slot_configured, slot_deconfigured, slot_disabled, slot_enabled, slot_reset, state_after}
pub use Rattle.safety.proofs.StatesKeep.StatesPlaced.{IsPlaced, MayPlace, is_off_of, on_is, placed_is, pointed_off, pointed_on, some_ring}
pub use Rattle.safety.proofs.RingsKeep.StillPlacing.{still_reads}
pub use Rattle.safety.proofs.Finishes.StopChange.{stop_keeps}
pub use Rattle.safety.proofs.Behind.TransferFrames.{LeavesSlots, event_ring_of, spot_ring, transfer_command, transfer_off, transfer_slots}
pub use Rattle.safety.proofs.Behind.TransferLeaves.{TransferLeaves, transferred_leaves}
pub use Rattle.safety.proofs.RingsKeep.Transfers.{by_code, chain, spot_is, transfer_keeps}
pub use Rattle.safety.proofs.AlikeEvents.Woken.{Woken, woken_elsewhere, woken_floor, woken_move, woken_reach, woken_seen, woken_state}
pub use Rattle.safety.proofs.Words.{AddressDevice, AfterStop, Agrees, All, All-append, All-cons, All-contains, All-get_or, All-head, All-map, All-nil, All-push, All-tail, All-weaker, AllAreRead, AreAtFloors, AreKept, ArePossible, AreSteps, Bell, Binding, Block, BlockKind, Bool, BoundRing, Change, Cmd, Command, CommandCompletion, CommandKeeps, CommandMatches, CommandRingKeeps, CommandsKeep, Config, ConfigureEndpoint, Configured, Contains, ContextSize, Crcr, Crossing, Data, Dcbaap, Declares, DeviceKeeps, DeviceLeft, DevicesKeep, DisableSlot, Disabled, Disables, DriverKeeps, EnableSlot, Enabled, Ended, EndpointRing, EndpointState, EndpointsKeep, Erdp, Error, Erstba, Erstsz, EvaluateContext, EventsStand, Evt, FewSteps, Finish, FreeRing, FreeRow, Given, GivesMore, GoesSoFar, Halt, HaltState, Halted, Harm, Header, Headline, HeldMore, Holds, InputContextChanged, IsAhead, IsBlock, IsComing, IsDriverRing, IsDriverRow, IsHeader, IsHeldMore, IsIdleEndpoint, IsIn, IsKept, IsNobodys, IsRestored, IsRow, IsSafe, IsShape, IsShownTo, IsSpot, IsStep, IsTimely, IsTransferRing, IsTransferTest, IsUnchanged, IsUnfinished, KeepsPassed, KeptByRestoring, KeptByRows, Known, LazyLaw, Leased, Link, List, Look, LooksOutside, Matches, MayBegin, MayChange, MayChangeAll, MayCome, MayFinish, MayPoint, MayReach, MayRead, MayRing, MoreLaw, MovesIf, MovesRestored, Newest, NextRow, NoOp, None, NopRow, NotHalting, NotNamed, Off, Opens, Option, Other, PassesNoMore, Placed, Places, Position, PostsOverUnread, Profile, Range, Reaches, Read, Reg, RegRead, Register, Report, ResetDevice, ResetEndpoint, Resets, Restores, Rests, Ring, RingChange, RingEvent, RingKeeps, RingKind, RingMatches, RingRow, RingSpot, RingState, RingView, RingWithdraws, RingsKeep, RingsKept, Row, RunKeeps, Running, Runs, Scene, Scribble, Segment, SetTrDequeue, Shape, SlotEntry, SlotGoesOn, SlotState, Some, Spot, Square, SquareLaw, Stands, StatesKeep, Stays, StaysIf, Step, StillHolds, StillReads, StopEndpoint, Stopped, Stops, Sub, Take, TakenCommand, TakenOtherWords, TakenOutOfOrder, Test, Took, TransferEvent, Types, UnderWay, UnderWayMatches, Unreported, Unstarted, Usbcmd, Usbsts, WaitsInsideDescriptor, Withdraws, World, Write, Writes, Xfer, [], add-zero, address_inside, address_of, after, after_reached, all_read, and_cases, and_from, and_left, and_parts, and_right, any_in_range, any_of, ap, append-nil, append_assoc, arith, base_address, below_is, block_at, broken_of, cases_Bool, cases_eq, cases_lt, cases_option, ceiling_held, ceiling_within, changed, clash, clears_chain, code, command_abort, command_of, command_stop, cond-false, cond-true, cond_both, cond_some, cons_option, context_cycle, context_pointer, crossing_given, crossing_positive, cycle, cycle_of, cycle_of_bit, data_not_link, declared, device_context, device_context_bytes, driver_event_read, drop, due_from, due_is, endpoint, endpoint_meant, endpoint_success, eq-eqb, eqb-true, erdp_address, exclude, false, false_from_ne_true, false≢true, filter, filter_map, find, flat_map, floor_given, floor_number, from_filter, fun_ext, get_or, get_or-append_right, get_or-map-range_with_len, get_or-reverse, get_or_from_slice_get, given_below, given_count, given_count-writes, given_count_declared, given_count_grows, given_count_most, given_count_near, given_count_same, given_count_still, given_count_stops, gives, gives_crossing, gives_crossing_is, gives_is, gives_one, halted_bit, has_event_data, has_isoch, has_isochronous, has_runs, header_after, header_now, holds_keeps, id_of, id_or_none, if◌then◌else◌, in_filter, inl, input_add_flag, input_context_bytes, inr, interrupts, is_above_control, is_asked, is_at_rest, is_bad_descriptor, is_command_completion, is_command_kind, is_command_left_out, is_crossing, is_declared_as, is_disabled, is_done, is_driver_kind, is_dropped, is_due, is_event_kind, is_event_place, is_halting, is_handed_over, is_idle, is_in, is_in-parts, is_in_run, is_in_way, is_inside, is_left_out, is_link, is_named, is_no_command, is_none, is_not_whole, is_of_service, is_off, is_open_if, is_other_event, is_reached, is_reached_within, is_report_of_success, is_restored, is_ring, is_ring_row, is_run, is_running, is_shape, is_slot_enabled, is_some, is_stop_of, is_stopped, is_stopping, is_success, is_transfer_code, is_transfer_event, is_transfer_kind, is_transfer_ring, is_trb_error, is_used, is_value, kind, known_after, known_now, lazy_further, le-leb, le-ltb, leads_wrong, leb-false, leb-true, length, length-append, length-map-range_with_len, length-no_ops, length-reverse, list_all, list_any, list_any-append, list_any_at, lt-ltb, ltb-false, ltb-true, map, max, may_answer_slot, may_have_data, may_stand_together, min, move-writes, move_more, move_reached, named_context, named_endpoint, named_slot, named_spot-Some, named_spot-near, nat_le, nat_lt, ne_eqb, new_ring, next, next_later, next_least, no_id, no_ops, none-some, not, not-false, not-true, not_from_false, not_from_true, number, number-after, option_and_then, option_map, or_cases, or_from, or_left, or_parts, or_right, overlap, place_count, place_count_pos, placed_by_context, pointer, position, position-None, position_from, position_given, position_given_is, positions_given-one, profile_of, put, put_elsewhere, put_here, put_pair, range_with_len, rank, rank_least, rank_most, reached_given, reaches_and_holds_keeps, reaches_keeps, read_made, refl, register_or_zero, reset_bit, resets_by, restored, restores_keeps, reverse, reverse-append, reverse-reverse, ring_cycle_state, ring_with, rings_overlap, row_next, rules, run_bit, same_Some, same_rank, same_register, same_words, scene_reached, seen, shape_facts, shape_or, slice_get, slice_get-append, slice_get_past, slice_get_within, slot, slot_gone_on, slot_meant, slot_success, some_of, split_at, split_border, spot_address, spot_cycle, spots_from, state_of, step_is, step_made, step_more, stop_spot_reached, subst, suc, sym, take_at, target_ahead, told, touches, touches_events, true, typed_by_context, unwrap_or, whole_more, with_coming, with_left, with_register, with_world, withdraws_keeps, writes_more, zero, ℕ, ◌%◌, ◌&&◌, ◌*◌, ◌++◌, ◌+◌, ◌-◌, ◌/◌, ◌<◌, ◌==◌, ◌^◌, ◌||◌, ◌∙◌, ◌∷◌, ◌≡◌, ◌≢◌, ◌≤◌, ◌⊎◌}
unfoldable pub use Rattle.safety.proofs.Words.{activated, added_endpoints, adds_streams, awaits_binding, begins_anew, behind_blocks, bell_row, binding_in, bindings_effect, binds, binds_ring, bound_to, broken_off, brought, can_finish, can_post, can_report, can_report_at, can_succeed, ceiling, changed_by, changed_by_all, changes, changes_owned, code_posted, code_told, command_at, command_given, command_id, command_placed, command_ring, command_taken, completed, context_ranges, counted, covers, crossed, crossings_given, data_at, declaration_tests, descriptor_length, device_named, device_ranges, disabled, doorbell_tests, driver_declared, driver_endpoint_bell, driver_reset, driver_resets, driver_rings, driver_run_or_stop, driver_runs_again, driver_runs_once, driver_valued, drops, due_crossings, due_positions, effect, emptied, ended, ended_with, endpoint_bell, endpoint_rung, ends_need, entry_of, entry_ranges, event_at, event_id, event_read, event_ring, event_shape, event_size, event_tests, finish_finished, finish_succeeded, finished, finished_as, flips_passed, forgotten, further, given_by, given_of, given_up, goals, goes_badly, gone, halts, harm_of, harms, has_bad_content, has_bad_context, has_bad_entry, has_changed_context, has_gap, has_no_room, has_one_of, has_other_words, has_repeats, has_stopped, held_at_ceiling, held_at_given, holds_of, in_state, inactive, is_among, is_bad_area, is_bad_bell, is_bad_binding, is_bad_command, is_bad_command_register, is_bad_crcr, is_bad_dequeue, is_bad_device, is_bad_doorbell, is_bad_erdp, is_bad_free, is_bad_kind, is_bad_move, is_bad_place, is_bad_register, is_bad_ring, is_bad_segment, is_bad_stay, is_bad_withdraw, is_being_bound, is_being_moved, is_border, is_busy, is_changed_since, is_code_of_profile, is_command_ring, is_context_changed, is_data_below, is_driver_ring, is_early_reset, is_early_restore, is_early_resume, is_early_save, is_early_start, is_end, is_first_halt, is_had, is_had_by_another, is_held_ring, is_impossible, is_impossible_by_kind, is_impossible_completion, is_impossible_read, is_impossible_status, is_impossible_transfer, is_in_profile, is_in_range_lease, is_in_use, is_inside_descriptor, is_kept, is_late, is_leased, is_left, is_link_control, is_move, is_no_descriptor, is_no_first_block, is_not_declared, is_not_restored, is_open, is_other_than_declared, is_out_of_order, is_past_room, is_placed, is_placed_by, is_placed_by_all, is_placement, is_soiled, is_step_given, is_stop_spot, is_stop_under_way, is_stopping_now, is_taken, is_target, is_the_controllers, is_touched, is_unfit, is_unwritten, is_way_given, is_working, is_written, known_changed_by, known_changed_by_all, known_disabled, known_finished, known_gone, known_in_state, known_succeeded, known_typed, lazy_brought, lazy_goals, lazy_run, lazy_steps, learned, lease_bytes, lease_start, leased_crossings, leased_positions, length_from, lenient, lenient_tests, listed, looked, looked_at, looks_taken, looks_to, made, may_be_taken, may_be_told, may_come, may_pass, may_tell_value, moved, moved_to, moves_ring, named, names, names_disabled_endpoint, names_disabled_slot, names_last, names_no_place, need, next_command, next_take, no_device, nothing, noting_post, number_behind, number_reported, on_crossing, on_position, on_ring, open_goals, open_leases, open_on, open_ranges, opening, other_posted, passed, passes_end, placed, placed_on, pointed, pointers_after, pointers_at, pointers_for, positions_given, post_of, posted, posts_posted, range_of_command, range_of_device, range_of_entry, read_tests, register_read, register_row, register_tests, register_written, report_code, report_error, report_goals, report_stop, report_success, reported, reported_on, reset, resets, resting, restored_on, rests_with, ring_bound, ring_having, ring_moved, ring_placed, ring_restored, row_done, run_or_stop, rung, runs_again, runs_once, saves_badly, seen_by_look, segment_ranges, set_to, shape_of, shows, shows_first_lap, slots, some_command, some_crossed, some_flips, some_given, spot_named, spot_on, spots_before, spots_between, status_read, steps_before, steps_for, steps_made, stop_ended, stop_goal, stopped_at, stopped_goals, stopped_number, stopped_with, stored, stored_block, streams_in, succeeded, table_range, taken_device, taken_on, taken_up_to, takes_bad_device, target, touches_endpoint, touches_ring, transfer_read, transferred, transferred_at, transfers_passed, typed, unchains, unfinished, unfinished_positions, unreported, unrestored, until_halted, valued, waits, was_stop_seen, while_running, with_command_ring, with_dequeue, with_device, with_reported, with_ring, with_stopped, with_word, without_descriptor, without_ring, world_changed_by, world_changed_by_all, world_disabled, world_in_state, world_typed, write_tests, written}
pub use Rattle.safety.proofs.Rows.WrittenKnown.{GivesCommand, after_write, command_slot_low, taken, unfinished_written, written_device, written_device_none, written_memory, written_ring, written_soiled, written_soiled_none}
