-- Words and lemmas, passed on to the files above them
pub use Rattle.safety.proofs.AlikeEvents.AlikeChanges.{both_sides_if}
pub use Rattle.safety.proofs.AlikeEvents.AlikeEvents.{EventAlike, ReadAlike, read_alike}
pub use Rattle.safety.proofs.CommandsKeep.CommandsCompleted.{completion_commands}
pub use Rattle.safety.proofs.CommandsKeep.CommandsDeclared.{declared_commands}
pub use Rattle.safety.proofs.CommandsKeep.CommandsRung.{rung_commands, set_touches}
pub use Rattle.safety.proofs.CommandsKeep.CommandsTransfer.{transfer_commands}
pub use Rattle.safety.proofs.CommandsKeep.CommandsWritten.{written_commands}
pub use Rattle.safety.proofs.Beneath.DeviceBeneath.{Untaken, beyond, device_driver, device_read}
pub use Rattle.safety.proofs.DevicesKeep.DevicesWritten.{and_then_parts, contains_first}
pub use Rattle.safety.proofs.Beneath.EndpointBeneath.{rung_driver, rung_woken, transfer_rung}
pub use Rattle.safety.proofs.Behind.EventBehind.{behind_kept, event_behind, event_on, passed_behind}
pub use Rattle.safety.proofs.Finishes.FinishAddress.{first_binds, second_moves, slot_binds, slot_moves}
pub use Rattle.safety.proofs.Finishes.FinishConfigure.{apart, have_none, may_add, numbered}
pub use Rattle.safety.proofs.Finishes.FinishDequeue.{may_move}
pub use Rattle.safety.proofs.Finishes.FinishRuns.{finish_runs}
pub use Rattle.safety.proofs.Finishes.FinishSlots.{AreNoPlacings, IsNoPlacing, PlacesNone, some_then}
pub use Rattle.safety.proofs.Finishes.FinishSuccess.{same_meant}
pub use Rattle.safety.proofs.Behind.FloorsGrow.{floors_grow}
pub use Rattle.safety.proofs.AlikeEvents.HeldFurther.{EverySlot, command_same, flip_driver, held_more, more_law, read_both, read_same, states_from, targets_are}
pub use Rattle.safety.proofs.RunKeeps.IdleCommands.{taken_still}
pub use Rattle.safety.proofs.RunKeeps.KeptClean.{kept_clean, taking}
pub use Rattle.safety.proofs.RunKeeps.KeptCommandRing.{kept_erstsz_written, kept_sized}
pub use Rattle.safety.proofs.RingsKeep.KeptCommands.{completed_view, kept_command_ring}
pub use Rattle.safety.proofs.RunKeeps.KeptCounts.{kept_dequeued, kept_read_room, kept_unstarted, read_counts}
pub use Rattle.safety.proofs.DevicesKeep.KeptDevices.{kept_devices}
pub use Rattle.safety.proofs.RingsKeep.KeptRings.{CompletionFacts, by_completion, command_holds, completion_facts, kept_rings, next_at_floor, next_unfinished, still_of}
pub use Rattle.safety.proofs.RunKeeps.KeptRun.{kept_run, read_held}
pub use Rattle.safety.proofs.LazyRuns.Follows.{AtFloors, Carries, EventLaw, Follows, HadBefore, IsActiveIfOpen, Leads, Looked, LooksLaw, LooksLeave, MayBring, Past, RingStands, RingsGo, StandsAt, Traced, commands_stand, driver_no_ring, driver_reached, first_stands, looks_for, next_reached, no_steps, one_spot, pointers_same, ring_stands, sees_halt, stands_first, step_reached, traced_behind, until_made}
pub use Rattle.safety.proofs.LazyRuns.NeedsOfHeld.{AreTimely, IsHeld, need_of_held, no_command_id, timely_then}
pub use Rattle.safety.proofs.LazyRuns.RowsLearn.{IsPlain, NamesCommand, PointerStays, RowLearns, RowLeaves, names_command, open_before, plain_is_done, row_active, row_halted, row_is_done, row_learns, row_leaves, row_named, row_names, row_plain, row_starts, row_unnamed, same_resets, unused_held}
unfoldable pub use Rattle.safety.proofs.LazyRuns.RowsLearn.{done}
pub use Rattle.safety.proofs.LazyRuns.TransferFacts.{NamesBlock, ServiceFacts, StopsThere, TransferFacts, error_goes_on, error_names, stop_code, stop_names, stopping_taken, success_goes_on, success_names, transfer_facts}
pub use Rattle.safety.proofs.Behind.LeasesBehind.{Behind, both_fewer, devices_fewer, entry_stays, flat_fewer, map_fewer, none_fewer, not_the_controllers_behind, ranges_fewer, still_free}
pub use Rattle.safety.proofs.MiddleLaws.{AgreeIn, Alike, AllFail, AnotherRing, AreFew, AreNumbered, AreaParts, BellFacts, Beside, BindsAsBefore, ChangeKeeps, CommandsOpen, CompletionSays, Concerns, CrossDone, Crossable, EventFacts, FitAll, GivenFacts, GivesCommand, HasKept, HasRing, HavesAlike, IsAsBefore, IsGood, IsValued, KeepsCycles, KeepsRings, KeepsValues, Left, LiveScene, MoveSpot, NextAlike, OnlyRing, OtherRings, OtherWorld, OwnKeeps, PlacedTo, PlacesStay, PostKeeps, Ready, ReadyAt, RingAlike, RingBehind, RingGoesOn, RingsBeside, SameDriver, SameGiven, SameStates, StatesMatch, StopsNext, TakeDone, Takeable, TransferLeaves, Woken, address_same, agrees_counted, agrees_now, agrees_once_counted, all_are_read, all_given, all_numbered, another_ring_agrees, any_of_map, area_from, area_parts, aside, at_floor, at_number, at_pair, bad_command_context, bad_context_parts, behind_block, behind_link, bell_facts, bell_leaves, bell_so, binds_placed, binds_ring_beside, bit, bit_clear, bit_most, bit_set, block_found, block_no_link, both_drivers, both_keep, bound_transfer, by_address, ceiling_last, ceiling_more, chain, change_keeps, changes_numbered, clean_same, clean_tests, command_at_is, command_found, command_goal, command_is_ring, command_named, command_numbered, command_of-with_cycle, command_value, command_with, commands_open, completion_kind, completion_says, cond_is, configure_same, context_good, context_lies, context_same, cross_done, crossable, crossed_same, crosses_before, declaration_leaves, declared_lingers, declared_so, declares_goes_on, declares_values, dequeue_lingers, dequeue_so, driver_is, driver_le, driver_ring, driver_test, due_has_ring, each_fails, each_good, each_passes, endpoints_of, endpoints_part, endpoints_same, erdp_says, erdp_within, event_facts, event_ring_of, event_same, event_still, failed_read, fewer, find_kept, finish_is, forgetting_agrees, found_allowed, found_before, found_in, found_new, found_passes, free_or_same, free_same, from_parts, further_most, given_among, given_facts, given_same, gives_before, gives_behind, goes_same, halted_is, has_ring, having_transfer, header_parts, held_more_same, held_more_twice, held_open, held_same, held_twice, in_range, is_command, is_event_read, is_ring_is, keeps_cycles, kept_coming, kept_going, kept_withdrawing, laid, laid_here, laid_put, last, last_from, last_most, learned_read, leased_device, let_go, lingering, link_is, live_next, live_reached, live_row, live_step, live_with, look_runs, made_so, mapped, may_declare, may_post, move_spot, moved_having, moves_placed, named_if_taken, named_still, named_value, names_address, names_still, names_value, new_ring_agrees, new_ring_header, new_ring_kept, next_is, next_known, no_command_ring, no_goal, no_more, no_reset, none_has_256, none_in_range, none_keeps, none_lingers, none_of_driver, none_of_ring, not_in_both, not_the_controllers, nothing_next, number_after, number_taken, off_driver, off_is, on_driver, on_ring_same, only_begun, only_crossed, only_one, only_taken, open_held, open_takes, opens, opens_goes_on, other_rings_keep, own_beside, own_keeps, passes_both, phase_agrees, phase_lingers, phase_so, placed_elsewhere, placed_here, placed_state, placed_there, placed_world, placed_world_is, post_keeps, put_at, put_off, reached_is_good, read_lingers, read_runs, read_so, ready_next, register_facts, register_leaves, register_same, registered, reported_can, rest_active, rest_still, rested, ring_at, ring_elsewhere, ring_goal, ring_here, ring_is, ring_shape, ring_stays, rings_of, rung_same, safe, safe_from, same_context, same_given, same_numbered, same_stay, scribble_runs, seen_after, seen_done, seen_part, seen_same, shape_allowed, shape_is, slot_above, slots_part, slots_same, spot_ahead, spot_inside, spot_reached, spot_same, stands_at, started_is, state_same, states_match, status_leaves, status_same, still_reads, still_restored, stop_by_address, stop_ended_is, stop_same, stops_is, take_done, takeable, taken, tests_fail, told_same, total, total_grows, total_le, total_most, total_none, total_one, total_twice, transfer_command, transfer_driver, transfer_kind, transfer_not_command, transfer_ring, transfer_same, transfer_value, transferred_leaves, two_goals, unfinished_fails, unfinished_view, unnamed, view_after, weaker, with_reads, woken_reach, woken_seen, words_itself, write_leaves, writes_goes_on, written_device, written_elsewhere, written_ring, written_same, written_view}
unfoldable pub use Rattle.safety.proofs.MiddleLaws.{come_to, of_driver, place_value, progress}
pub use Rattle.safety.proofs.RunKeeps.Nobodys.{kept_nobody}
pub use Rattle.safety.proofs.NothingKept.{nothing_kept}
pub use Rattle.safety.proofs.Posts.Other.{other_runs, says_nothing}
pub use Rattle.safety.proofs.Behind.PassedBehind.{unrestored_before}
pub use Rattle.safety.proofs.Finishes.PlaceEach.{HasNone, none_there}
pub use Rattle.safety.proofs.Finishes.PlaceKeeps.{MayBind, MayMove, bind_keeps, bound_spot, move_keeps}
pub use Rattle.safety.proofs.Targets.PlacedTargets.{placed_targets}
pub use Rattle.safety.proofs.Rows.PlainRows.{plain_done}
pub use Rattle.safety.proofs.Reports.ReportRuns.{report_runs}
pub use Rattle.safety.proofs.ResetRuns.ResetKeeps.{IsReset, done_asked, nobodys_unused, none_left, not_command, reset_is, view_command, view_other}
pub use Rattle.safety.proofs.RingChanges.CommandRings.{command_comes_header, command_comes_keeps, command_goes_header, command_goes_keeps, nobody_untaken}
pub use Rattle.safety.proofs.RingChanges.EventRings.{event_comes_header, event_comes_keeps, event_goes_header, event_goes_keeps}
pub use Rattle.safety.proofs.RingChanges.EventRuns.{event_comes_runs, event_goes_runs}
pub use Rattle.safety.proofs.RingChanges.GoneRings.{gone_ring_agrees, gone_ring_header, gone_ring_kept}
pub use Rattle.safety.proofs.RingChanges.LivingRings.{Lists, TakesAreRight, all_live, came_aside, come_again, comes_lists, command_is, events_are, fails_there, goes_lists, left_behind, may_come_there, none_gone, shape_same, still_listed, was_live, went_aside}
pub use Rattle.safety.proofs.RingChanges.QuietKeeps.{IsQuiet, QuietSquare, quiet_keeps, quiet_square, restored_agrees, withdrawn_agrees}
pub use Rattle.safety.proofs.RingChanges.ReadAlike.{BindsAlike, next_kept, read_possible}
pub use Rattle.safety.proofs.Beneath.RowBeneath.{awake_runs, read_on}
pub use Rattle.safety.proofs.Rows.RowIdle.{bell_state, bell_untouched, command_rung, idle, rings, rung_agrees}
pub use Rattle.safety.proofs.StatesKeep.StatesCompletion.{can_be, completion_stands, reached_fields, reached_held}
pub use Rattle.safety.proofs.StatesKeep.StatesDriver.{states_declared, states_registered, states_status, states_written, stops_on, view_same}
pub use Rattle.safety.proofs.StatesKeep.StatesFit.{success_fits}
pub use Rattle.safety.proofs.StatesKeep.StatesRung.{states_rung, stop_touches}
pub use Rattle.safety.proofs.StatesKeep.StatesTransfer.{PartsStand, transfer_stands}
pub use Rattle.safety.proofs.Reports.StopRead.{StopCode}
pub use Rattle.safety.proofs.Behind.UnfinishedBehind.{listed_before, listed_unfinished, moved_before, rings_behind}
pub use Rattle.safety.proofs.Behind.UntouchedHeld.{EndpointHolds, both_hold, changes_hold, same_holds}
pub use Rattle.safety.proofs.AlikeEvents.WokenChanges.{Owns, changes_woken, flipped, one_of}
pub use Rattle.safety.proofs.AlikeEvents.WokenTransfers.{transfer_woken, works_there}
pub use Rattle.safety.proofs.AlikeEvents.WokenTwice.{woken_more}
pub use Rattle.safety.proofs.Words.{AddressDevice, AfterStop, Agrees, All, All-append, All-cons, All-get_or, All-head, All-map, All-nil, All-tail, All-weaker, AllAreRead, AreAtFloors, AreKept, ArePossible, AreSteps, Bell, Binding, Block, BlockKind, Bool, BoundRing, Change, Cmd, Command, CommandCompletion, CommandKeeps, CommandMatches, CommandsKeep, Config, ConfigureEndpoint, ContextSize, Crcr, Crossing, Data, Dcbaap, Declares, DeviceLeft, DisableSlot, Disables, DriverKeeps, EnableSlot, Ended, EndpointRing, EndpointState, EndpointsKeep, Erdp, Error, Erstba, Erstsz, EvaluateContext, EventsStand, Evt, FewSteps, Finish, FreeRing, FreeRow, Given, GivesMore, GoesSoFar, Halt, HaltState, Halted, Harm, Header, Headline, HeldMore, Holds, InputContextChanged, IsAhead, IsBlock, IsComing, IsDriverRing, IsDriverRow, IsHeader, IsHeldMore, IsIdleEndpoint, IsIn, IsKept, IsNobodys, IsRestored, IsRow, IsSafe, IsShape, IsSpot, IsStep, IsTimely, IsTransferRing, IsUnfinished, KeepsPassed, KeptByRestoring, KeptByRows, Known, LazyLaw, Link, List, Look, LooksOutside, Matches, MayBegin, MayCome, MayReach, MayRing, MoreLaw, MovesIf, MovesRestored, Newest, NextRow, NoOp, None, NopRow, NotHalting, NotNamed, Opens, Option, Other, PassesNoMore, Placed, Places, Position, PostsOverUnread, Reaches, Read, Reg, RegRead, Register, Report, ResetDevice, ResetEndpoint, Resets, Restores, Rests, Ring, RingChange, RingEvent, RingKeeps, RingKind, RingMatches, RingRow, RingSpot, RingState, RingView, RingWithdraws, RingsKeep, Row, Running, Runs, Scene, Scribble, Segment, SetTrDequeue, Shape, SlotGoesOn, Some, Spot, Square, SquareLaw, Stands, StatesKeep, StaysIf, Step, StopEndpoint, Stopped, Stops, Sub, Take, TakenCommand, TakenOtherWords, TakenOutOfOrder, Test, Took, TransferEvent, Types, UnderWay, UnderWayMatches, Usbcmd, Usbsts, WaitsInsideDescriptor, Withdraws, World, Write, Writes, Xfer, [], address_inside, address_of, after, after_reached, all_read, and_cases, and_from, and_left, and_parts, and_right, any_in_range, any_of, ap, append-nil, append_assoc, arith, base_address, block_at, broken_of, cases_Bool, cases_eq, cases_lt, cases_option, ceiling_held, ceiling_within, changed, clears_chain, code, command_abort, command_of, command_stop, cond-false, cond-true, cond_both, context_cycle, context_pointer, crossing_positive, cycle, cycle_of, cycle_of_bit, declared, device_context, device_context_bytes, driver_event_read, endpoint, eq-eqb, eqb-true, erdp_address, exclude, false, false_from_ne_true, false≢true, filter, find, flat_map, floor_number, from_filter, fun_ext, get_or, get_or-map-range_with_len, get_or-reverse, given_count, given_count_near, given_count_same, given_count_still, given_count_stops, gives, gives_crossing, gives_crossing_is, gives_is, halted_bit, has_event_data, has_runs, header_after, header_now, id_of, id_or_none, if◌then◌else◌, in_filter, inl, inr, interrupts, is_asked, is_at_rest, is_command_completion, is_command_kind, is_crossing, is_declared_as, is_disabled, is_done, is_dropped, is_due, is_event_kind, is_halting, is_idle, is_in, is_in_run, is_inside, is_link, is_named, is_none, is_not_whole, is_off, is_open_if, is_other_event, is_reached_within, is_report_of_success, is_restored, is_ring, is_ring_row, is_run, is_running, is_shape, is_some, is_stop_of, is_stopped, is_stopping, is_success, is_transfer_event, is_transfer_kind, is_trb_error, is_used, is_value, kind, known_after, known_now, lazy_further, le-leb, le-ltb, leads_wrong, leb-true, length, length-append, length-map-range_with_len, length-reverse, list_any, lt-ltb, ltb-false, ltb-true, map, max, move_more, named_context, named_spot-Some, nat_le, nat_lt, ne_eqb, new_ring, next, next_later, next_least, no_id, no_ops, none-some, not, not-false, not-true, not_from_false, not_from_true, number, number-after, option_and_then, or_cases, or_from, or_left, or_parts, or_right, place_count, placed_by_context, pointer, position, position-None, position_from, position_given_is, positions_given-one, put, put_pair, range_with_len, rank, rank_least, rank_most, read_made, refl, register_or_zero, reset_bit, resets_by, restored, restores_keeps, reverse, reverse-append, reverse-reverse, ring_cycle_state, ring_with, row_next, rules, run_bit, same_Some, same_rank, same_words, scene_reached, seen, shape_or, slice_get, slice_get-append, slice_get_past, slice_get_within, slot, some_of, split_at, spot_address, spot_cycle, spots_from, state_of, step_made, stop_spot_reached, subst, suc, sym, take_at, told, true, typed_by_context, unwrap_or, whole_more, with_coming, with_left, with_register, with_world, withdraws_keeps, zero, ℕ, ◌&&◌, ◌*◌, ◌++◌, ◌+◌, ◌-◌, ◌<◌, ◌==◌, ◌||◌, ◌∙◌, ◌∷◌, ◌≡◌, ◌≢◌, ◌≤◌, ◌⊎◌}
unfoldable pub use Rattle.safety.proofs.Words.{activated, added_endpoints, adds_streams, awaits_binding, begins_anew, behind_blocks, bell_row, binding_in, bindings_effect, binds, binds_ring, bound_to, broken_off, brought, can_finish, can_post, can_report, can_report_at, can_succeed, ceiling, changed_by, changed_by_all, changes, changes_owned, code_posted, code_told, command_at, command_given, command_id, command_ring, command_taken, completed, context_ranges, counted, covers, crossed, crossings_given, data_at, declaration_tests, descriptor_length, device_named, device_ranges, disabled, doorbell_tests, driver_reset, driver_resets, driver_rings, drops, due_crossings, due_positions, emptied, ended, ended_with, endpoint_bell, endpoint_rung, ends_need, entry_of, entry_ranges, event_at, event_read, event_ring, event_shape, event_size, finish_finished, finish_succeeded, finished, finished_as, flips_passed, forgotten, further, given_by, given_of, given_up, goals, goes_badly, gone, halts, harm_of, harms, has_bad_context, has_bad_entry, has_changed_context, has_no_room, has_one_of, has_other_words, has_repeats, has_stopped, held_at_ceiling, held_at_given, holds_of, in_state, inactive, is_among, is_bad_area, is_bad_bell, is_bad_binding, is_bad_command, is_bad_command_register, is_bad_crcr, is_bad_dequeue, is_bad_device, is_bad_doorbell, is_bad_erdp, is_bad_free, is_bad_kind, is_bad_move, is_bad_place, is_bad_register, is_bad_ring, is_bad_segment, is_bad_stay, is_bad_withdraw, is_being_bound, is_being_moved, is_border, is_busy, is_changed_since, is_command_ring, is_context_changed, is_driver_ring, is_early_reset, is_early_restore, is_early_resume, is_early_save, is_end, is_first_halt, is_had, is_had_by_another, is_held_ring, is_impossible_by_kind, is_impossible_completion, is_impossible_read, is_impossible_status, is_in_profile, is_in_range_lease, is_in_use, is_inside_descriptor, is_kept, is_late, is_leased, is_left, is_link_control, is_no_descriptor, is_no_first_block, is_not_declared, is_not_restored, is_open, is_other_than_declared, is_out_of_order, is_placed, is_placed_by, is_placed_by_all, is_placement, is_soiled, is_step_given, is_stop_under_way, is_stopping_now, is_taken, is_the_controllers, is_touched, is_unfit, is_unwritten, is_way_given, is_working, known_changed_by, known_changed_by_all, known_disabled, known_finished, known_gone, known_in_state, known_succeeded, known_typed, lazy_brought, lazy_goals, lazy_run, lazy_steps, learned, length_from, lenient, lenient_tests, listed, looked, looked_at, looks_taken, looks_to, made, may_be_taken, may_be_told, may_come, may_pass, may_tell_value, moved, moved_to, named, names, names_last, names_no_place, need, next_command, next_take, no_device, nothing, noting_post, number_behind, number_reported, on_crossing, on_position, on_ring, open_goals, open_ranges, opening, other_posted, passed, passes_end, placed, placed_on, pointed, pointers_after, pointers_at, pointers_for, positions_given, post_of, posted, posts_posted, range_of_command, range_of_entry, read_tests, register_read, register_tests, register_written, report_code, report_error, report_goals, report_stop, report_success, reported, reported_on, reset, resets, resting, restored_on, rests_with, ring_bound, ring_having, ring_moved, ring_placed, ring_restored, row_done, run_or_stop, rung, runs_again, runs_once, saves_badly, seen_by_look, segment_ranges, set_to, shape_of, shows, shows_first_lap, slots, some_command, some_crossed, some_flips, some_given, spot_named, spots_before, status_read, steps_before, steps_for, steps_made, stop_ended, stop_goal, stopped_at, stopped_goals, stopped_number, stopped_with, stored, stored_block, streams_in, succeeded, table_range, taken_device, taken_on, taken_up_to, takes_bad_device, target, touches_endpoint, touches_ring, transfer_read, transferred, transferred_at, typed, unchains, unfinished, unfinished_positions, unreported, unrestored, until_halted, valued, waits, was_stop_seen, while_running, with_device, with_reported, with_ring, with_word, without_descriptor, without_ring, world_changed_by, world_changed_by_all, world_disabled, world_in_state, world_typed, write_tests, written}
pub use Rattle.safety.proofs.CommandsKeep.WriteBeside.{beside_new, beside_old, context_from, context_parts}
pub use Rattle.safety.proofs.Beneath.WriteEvents.{word_read, written_word}
