-- Words and lemmas, passed on to the files above them
pub use Rattle.safety.proofs.Posts.Areas.{bad_command_context, bad_context_parts, byte_apart, clean_word, context_lies, ring_untouched}
pub use Rattle.safety.proofs.NoHarm.AtSpots.{Crossable, MayStand, Takeable, crossable, takeable, waits_at_block, waits_at_link}
pub use Rattle.safety.proofs.CommandsKeep.BoundRings.{bound_transfer, drops_concerns, ring_is, ring_is as is_ring_is, stops_drop_none}
pub use Rattle.safety.proofs.Rows.CleanRows.{BellFacts, EventFacts, bell_facts, event_facts, register_facts}
pub use Rattle.safety.proofs.HeaderRings.CodesTold.{in_profile_is, named_no_service, no_service, profile_alike, spot_told, stop_by_address, told_alike, told_below}
pub use Rattle.safety.proofs.RingsKeep.CommandRing.{due_has_ring, no_places, nobodys_unmoved}
pub use Rattle.safety.proofs.CommandsKeep.CommandsBeside.{Beside, binds_beside, binds_ring_beside, drops_beside, exclude_beside, good_beside, in_profile_beside, leased_device}
pub use Rattle.safety.proofs.CommandsKeep.Concerned.{Concerns, added_concerned, excludes_turned, not_both, some_concerned}
pub use Rattle.safety.proofs.CommandsKeep.ContextReads.{AgreeIn, add_flag_same, added_indices, added_same, cycle_same, drop_flag_same, map_same, pointer_same, type_same}
pub use Rattle.safety.proofs.NoHarm.ContextWords.{added_below, address_same, configure_same, same_context}
pub use Rattle.safety.proofs.StepsLeave.Counted.{agrees_counted}
pub use Rattle.safety.proofs.Targets.DeclaredMoves.{MovesStay, ceiling_declares, moves_declares, moves_stand}
pub use Rattle.safety.proofs.Targets.DeclaredTargets.{named_still, target_still}
pub use Rattle.safety.proofs.RingsKeep.Declaring.{may_declare}
pub use Rattle.safety.proofs.DriverRings.{driver_ring, driver_test, endpoints_of, rings_of, transfer_ring}
pub use Rattle.safety.proofs.StatesKeep.EndpointPut.{at_number, at_pair}
pub use Rattle.safety.proofs.StatesKeep.EndpointsOff.{off_is, off_none, slot_above}
pub use Rattle.safety.proofs.RunKeeps.ErdpMoves.{erdp_says, erdp_within, event_place_of, no_place_stays, position_within, reached_is_good}
pub use Rattle.safety.proofs.Finishes.FinishChanges.{AreNumbered, ChangeKeeps, LeavesRest, StatesMatch, both_keep, known_changed, none_keeps, states_match, world_changed}
pub use Rattle.safety.proofs.ResetRuns.GivenUp.{ceiling_last, gives_up_keeps, held_keeps, last, last_from, last_most, last_to}
pub use Rattle.safety.proofs.HeaderRings.Headers.{EventRing, command_found, command_named, each_passes, event_ring_is, event_ring_size, found_in, header_parts, no_events, ring_not_event, ring_shape, shape_is, together, transfer_driver, transfer_not_command}
pub use Rattle.safety.proofs.AlikeEvents.HeldTwice.{held_more_same, held_more_twice, held_same as same_held, held_twice}
pub use Rattle.safety.proofs.RunKeeps.KeptRegisters.{Starts, register_starts, registered, some_is, starts_written, written_stays}
pub use Rattle.safety.proofs.RingsKeep.KeptWords.{KeepsCycles, put_same, same_word_keeps}
pub use Rattle.safety.proofs.StepsLeave.Learns.{LearnsRing, matches_learns, next_same, stands_learns, under_way_same, unfinished_same}
pub use Rattle.safety.proofs.Looks.LookKinds.{LookEnds, behind_block, behind_link, cond_is, looked_is, only_begun, only_crossed, only_seen, only_taken, put_at, put_off}
pub use Rattle.safety.proofs.Looks.LookedRing.{crossed_matches, crossed_unreported, leads_on, number_after, taken_matches, taken_unreported, way_crossed, words_itself}
pub use Rattle.safety.proofs.Reports.NamedData.{IsValued, by_address, by_value, named_value, names_address, names_still, names_value, spot_ahead, spot_reached, spot_same}
pub use Rattle.safety.proofs.HeaderRings.NamedRings.{moved_having, spot_inside}
pub use Rattle.safety.proofs.RunKeeps.NamesRing.{NamesRing, command_driver, command_with, names_ring}
pub use Rattle.safety.proofs.NoHarm.NoWait.{ceiling_given, ceiling_open, cycle_inside, inside_given, step_inside}
pub use Rattle.safety.proofs.HeaderRings.OneCommandRing.{no_command_ring}
pub use Rattle.safety.proofs.StepsLeave.OnlyRing.{OnlyRing, events_only, late_only, matches_command, matches_transfer, read_only, stands_only}
pub use Rattle.safety.proofs.HeaderRings.OpenRings.{held_open, none_is, open_held}
pub use Rattle.safety.proofs.Opens.{opens}
pub use Rattle.safety.proofs.Beneath.OtherRingsWritten.{not_in_both, written_elsewhere}
pub use Rattle.safety.proofs.RingsKeep.Passing.{passes_at, passes_both, passes_held, passes_restored, passes_same, passes_shown}
pub use Rattle.safety.proofs.Finishes.PlacedRing.{placed_matches, placed_state, placed_unreported, set_view}
pub use Rattle.safety.proofs.Posts.Posting.{CanPost, block_elsewhere, block_here, can_post_is, four_of, late_block, matches_block, places_apart, size_is, stands_block}
pub use Rattle.safety.proofs.RingChanges.GoneAside.{Left, aside, bell_so, declared_so, dequeue_so, laid, laid_here, laid_put, made_so, phase_so, read_so}
pub use Rattle.safety.proofs.RingChanges.KeptRings.{kept_coming, kept_going, kept_withdrawing}
pub use Rattle.safety.proofs.RingChanges.Lingering.{declared_lingers, dequeue_lingers, lingering, none_lingers, phase_lingers, read_lingers}
pub use Rattle.safety.proofs.RingChanges.LiveRuns.{LiveScene, live_next, live_reached, live_row, live_step, live_with}
pub use Rattle.safety.proofs.StepsLeave.RingGoesOn.{KeepsValues, RingGoesOn, bound_on, held_from, held_goes_on, matches_on, newest_still}
pub use Rattle.safety.proofs.HeaderRings.RingIds.{command_not_transfer, event_no_transfer, having_transfer, none_has_256, other_ids}
pub use Rattle.safety.proofs.NoHarm.RingMemory.{block_at_spot, same_block_at, spot_lies}
pub use Rattle.safety.proofs.HeaderRings.RingsOfHeader.{HasRing, driver_is, found_allowed, found_passes, has_ring, none_of_ring, shape_allowed, shape_unmoved}
pub use Rattle.safety.proofs.RunKeeps.RunOrStop.{runs_leave}
pub use Rattle.safety.proofs.NoHarm.SafeContext.{AtFloor, at_floor, changed_none, command_at_is, command_is_ring, named_if_taken, named_in_run, next_is, none_in_range, not_done, under_way_named, under_way_unchanged}
pub use Rattle.safety.proofs.NoHarm.SameCommand.{command_of-with_cycle}
pub use Rattle.safety.proofs.Behind.SameRings.{register_same, rung_same, status_same, stop_same, transfer_same, written_same}
pub use Rattle.safety.proofs.Posts.Scribble.{scribble_runs}
pub use Rattle.safety.proofs.Targets.StandingTargets.{target_here, target_placed}
pub use Rattle.safety.proofs.StatesKeep.StatesParts.{EndpointsStand, SeenStand, SlotStands, SlotsStand, StopsNext, endpoints_part, endpoints_same, from_parts, seen_part, seen_same, slots_part, slots_same, stop_is, stops_is}
pub use Rattle.safety.proofs.StepsLeave.Stored.{Late, late_stored, memory_stored, unchanged_stored}
pub use Rattle.safety.proofs.RingsKeep.TestsPassed.{AllFail, any_of_map, clean_tests, each_fails, tests_fail}
pub use Rattle.safety.proofs.RingsKeep.Unchained.{cleared_keeps}
pub use Rattle.safety.proofs.CommandsKeep.UnfinishedLists.{context_leased, device_leased, device_listed, entry_leased, fails_in, in_filter_map, in_left, in_range, in_right, table_leased, unfinished_fails}
pub use Rattle.safety.proofs.Behind.UntouchedStays.{EndpointStays, untouched_stays}
pub use Rattle.safety.proofs.StepsLeave.WithReads.{matches_with_reads, stands_with_reads, with_reads}
pub use Rattle.safety.proofs.Words.{AddressDevice, Addressed, AfterStop, Agrees, All, All-append, All-cons, All-contains, All-filter, All-get_or, All-head, All-map, All-nil, All-push, All-tail, All-weaker, AllAreRead, Any-from_list_any, AreAtFloors, AreFree, AreInOrder, AreKept, ArePossible, AreSteps, Bell, Binding, Block, BlockKind, Bool, BoundRing, Change, Cmd, Command, CommandCompletion, CommandKeeps, CommandMatches, CommandRingKeeps, CommandsKeep, Config, ConfigureEndpoint, Configured, Contains, ContainsAll, ContextSize, Crcr, Crossing, Data, Dcbaap, DeclaredBlock, Declares, Default, DeviceContext, DeviceKeeps, DeviceLeft, DevicesKeep, DisableSlot, Disabled, Disables, DriverKeeps, EnableSlot, Enabled, Ended, EndpointRestored, EndpointRing, EndpointState, EndpointsKeep, Erdp, Error, Erstba, Erstsz, EvaluateContext, EventsStand, Evt, FewSteps, Finish, FreeRing, FreeRow, Given, GivesMore, GoesSoFar, Halt, HaltState, Halted, Harm, Header, Headline, HeldMore, Holds, InputContext, InputContextChanged, IsAhead, IsBlock, IsComing, IsCrossingDue, IsDriverRing, IsDriverRow, IsHeader, IsHeldMore, IsIdleEndpoint, IsIn, IsKept, IsNobodys, IsRestored, IsRow, IsSafe, IsShape, IsShownTo, IsSpot, IsStep, IsTimely, IsTransferRing, IsTransferTest, IsUnchanged, IsUnfinished, KeepsPassed, KeptByRestoring, KeptByRows, Known, LazyLaw, Leased, Link, List, Look, LooksOutside, Matches, MayBegin, MayChange, MayChangeAll, MayCome, MayFinish, MayPoint, MayReach, MayRead, MayRing, MoreLaw, MovesIf, MovesRestored, Newest, NextRow, NoOp, None, NopRow, NotHalting, NotNamed, Off, Opens, Option, Other, PassesNoMore, Placed, Places, Position, PostsOverUnread, Profile, Range, Reaches, Read, Reg, RegRead, Register, Report, ResetDevice, ResetEndpoint, Resets, Restores, Rests, Ring, RingChange, RingEvent, RingKeeps, RingKept, RingKind, RingMatches, RingRow, RingSpot, RingState, RingView, RingWithdraws, RingsKeep, RingsKept, Row, RunKeeps, Running, Runs, Scene, Scribble, Segment, SegmentTable, SetTrDequeue, Shape, SlotEntry, SlotGoesOn, SlotState, Some, Spot, Square, SquareLaw, Stands, StatesKeep, Stays, StaysIf, Step, StillHolds, StillReads, StopEndpoint, Stopped, Stops, Sub, Take, TakenCommand, TakenOtherWords, TakenOutOfOrder, Test, Took, TransferEvent, Types, UnderWay, UnderWayMatches, Unreported, Unstarted, Usbcmd, Usbsts, Use, WaitsInsideDescriptor, Withdraws, World, Write, Writes, Xfer, [], add-zero, address_aligned, address_inside, address_of, address_of-lap, after, after_reached, aligned, alignment, all_read, and_cases, and_from, and_left, and_parts, and_right, any_in_range, any_of, ap, append-nil, append_assoc, are_apart, arith, base_address, below_is, block_at, both_ways, broken_of, cases_Bool, cases_eq, cases_lt, cases_option, ceiling_held, ceiling_within, changed, clash, clears_chain, code, command_abort, command_by_kind, command_of, command_stop, concerns, cond-false, cond-true, cond_both, cond_some, cons_option, context_cycle, context_pointer, counted_code, crossed_due, crossed_link, crosses, crossing_due_from, crossing_due_is, crossing_given, crossing_positive, cycle, cycle_of, cycle_of-first, cycle_of_bit, cycle_of_flips, data_not_link, data_value, declared, declares_keeps, device_context, device_context_bytes, driver_event_read, drop, drop-drop, due_from, due_is, endpoint, endpoint_meant, endpoint_success, eq-eqb, eqb-true, erdp_address, exclude, false, false_from_ne_true, false≢true, filter, filter_map, find, find-append, flat_map, floor_given, floor_number, found_is, from_filter, fun_ext, get_or, get_or-append_right, get_or-map, get_or-map-range_with_len, get_or-reverse, get_or_from_slice_get, given_below, given_count, given_count-declares, given_count-writes, given_count_declared, given_count_grows, given_count_most, given_count_near, given_count_same, given_count_still, given_count_stops, gives, gives_crossing, gives_crossing_from, gives_crossing_is, gives_from, gives_is, gives_one, halted_bit, has_event_data, has_isoch, has_isochronous, has_room, has_runs, header_after, header_now, holds_and_reaches_keeps, holds_keeps, id_of, id_or_none, if◌then◌else◌, in_filter, inl, input_add_flag, input_context_bytes, inr, interrupts, is_above_control, is_asked, is_at_rest, is_bad_descriptor, is_border-push, is_command_completion, is_command_kind, is_command_left_out, is_crossing, is_crossing-lap, is_declared_as, is_disabled, is_done, is_driver_kind, is_dropped, is_due, is_event, is_event_kind, is_event_place, is_halting, is_handed_over, is_idle, is_in, is_in-parts, is_in_one_page, is_in_run, is_in_way, is_inside, is_left_out, is_link, is_named, is_no_command, is_none, is_not_whole, is_of_service, is_off, is_open_if, is_other_event, is_reached, is_reached_within, is_report_of_success, is_restored, is_ring, is_ring_row, is_run, is_running, is_segment, is_set, is_shape, is_slot_enabled, is_some, is_spot, is_stop_of, is_stopped, is_stopping, is_success, is_transfer_code, is_transfer_event, is_transfer_kind, is_transfer_ring, is_trb_error, is_used, is_value, kind, kind-with_cycle, known_after, known_now, lazy_further, le-leb, le-ltb, leads_wrong, least_count, leb-false, leb-true, length, length-append, length-drop, length-map, length-map-range_with_len, length-no_ops, length-reverse, link_address, link_address-lap, link_address_inside, link_address_is, link_aligned, list_all, list_any, list_any-append, list_any_at, lt-leb, lt-ltb, ltb-false, ltb-true, map, max, may_answer_slot, may_have_data, may_stand_together, min, mod-eq_of_lt, mod_below, most_blocks, move-writes, move_more, move_reached, move_target, named_by, named_context, named_endpoint, named_slot, named_spot-Some, named_spot-near, nat_le, nat_lt, ne_eqb, new_ring, new_ring_keeps, next, next_is_spot, next_later, next_least, no_id, no_ops, none-some, not, not-false, not-true, not_from_false, not_from_true, number, number-after, opens_keeps, option_and_then, option_map, option_or, or_cases, or_from, or_left, or_parts, or_right, overlap, place_count, place_count_pos, placed_by_context, placement_still, pointer, position, position-None, position-Some, position_from, position_given, position_given_is, positions_given-one, posted_in_order, profile_of, put, put_elsewhere, put_here, put_pair, put_pair_same, range_with_len, rank, rank_least, rank_most, reached_given, reaches_and_holds_keeps, reaches_keeps, read_made, refl, register_or_zero, reset_bit, resets_by, restored, restores_keeps, reverse, reverse-append, reverse-reverse, ring_cycle_state, ring_with, rings_overlap, row_next, rules, run_bit, same_Some, same_in_lap, same_rank, same_register, same_spot, same_words, scene_reached, seen, segment_has, shape_facts, shape_or, shown_where_restored, slice_get, slice_get-append, slice_get_past, slice_get_within, slot, slot_gone_on, slot_meant, slot_success, some_of, split_at, split_border, spot_address, spot_address-after, spot_cycle, spots_from, state_of, step_is, step_made, step_more, stop_spot_reached, stopped_within, subst, suc, sym, table_bytes, take_at, target_ahead, told, touches, touches_events, true, typed_by_context, unary_clauses, unwrap_or, way_without, whole_more, with_coming, with_left, with_register, with_world, withdraws_keeps, word, writes_keeps, writes_more, zero, ℕ, ◌%◌, ◌&&◌, ◌*◌, ◌++◌, ◌+◌, ◌-◌, ◌/◌, ◌<◌, ◌==◌, ◌^◌, ◌||◌, ◌∙◌, ◌∷◌, ◌≡◌, ◌≢◌, ◌≤◌, ◌⊎◌}
unfoldable pub use Rattle.safety.proofs.Words.{activated, added_endpoints, adds_streams, awaits_binding, begins_anew, behind_blocks, bell_row, binding_in, bindings_effect, binds, binds_ring, bound_to, broken_off, brought, can_finish, can_post, can_report, can_report_at, can_succeed, ceiling, changed_by, changed_by_all, changes, changes_owned, code_posted, code_told, command_at, command_begun, command_given, command_id, command_placed, command_ring, command_taken, completed, context_ranges, counted, covers, crossed, crossings_given, data_at, declaration_tests, declared_at, descriptor_length, device_named, device_ranges, disabled, doorbell_tests, driver_declared, driver_endpoint_bell, driver_reset, driver_resets, driver_rings, driver_run_or_stop, driver_runs_again, driver_runs_once, driver_valued, drops, due_crossings, due_positions, effect, emptied, ended, ended_with, endpoint_bell, endpoint_rung, ends_need, entry_of, entry_ranges, event_at, event_id, event_read, event_ring, event_shape, event_size, event_tests, finish_finished, finish_succeeded, finished, finished_as, flips_passed, forgotten, further, given_by, given_of, given_up, goals, goes_badly, gone, halts, harm_of, harms, has_bad_content, has_bad_context, has_bad_entry, has_changed_context, has_gap, has_no_room, has_one_of, has_other_words, has_repeats, has_stopped, held_at_ceiling, held_at_given, holds_of, in_state, inactive, is_among, is_bad_added, is_bad_area, is_bad_bell, is_bad_binding, is_bad_command, is_bad_command_register, is_bad_crcr, is_bad_dequeue, is_bad_device, is_bad_doorbell, is_bad_erdp, is_bad_free, is_bad_kind, is_bad_move, is_bad_place, is_bad_register, is_bad_ring, is_bad_segment, is_bad_stay, is_bad_withdraw, is_being_bound, is_being_moved, is_border, is_busy, is_changed_since, is_code_of_profile, is_command_ring, is_context_changed, is_data_below, is_driver_ring, is_early_reset, is_early_restore, is_early_resume, is_early_save, is_early_start, is_end, is_first_halt, is_had, is_had_by_another, is_held_ring, is_impossible, is_impossible_by_kind, is_impossible_completion, is_impossible_read, is_impossible_status, is_impossible_transfer, is_in_profile, is_in_range_lease, is_in_use, is_inside_descriptor, is_kept, is_late, is_leased, is_left, is_link_control, is_move, is_no_descriptor, is_no_first_block, is_not_declared, is_not_restored, is_open, is_other_than_declared, is_out_of_order, is_past_room, is_placed, is_placed_by, is_placed_by_all, is_placement, is_soiled, is_step_given, is_stop_spot, is_stop_under_way, is_stopping_now, is_taken, is_target, is_the_controllers, is_touched, is_unfit, is_unwritten, is_way_given, is_working, is_written, known_changed_by, known_changed_by_all, known_disabled, known_finished, known_gone, known_in_state, known_succeeded, known_typed, lazy_brought, lazy_goals, lazy_run, lazy_steps, learned, lease_bytes, lease_start, leased_crossings, leased_positions, length_from, lenient, lenient_tests, listed, looked, looked_at, looks_taken, looks_to, made, may_be_taken, may_be_told, may_come, may_move_to, may_pass, may_scribble, may_tell_value, moved, moved_to, moves_ring, named, names, names_disabled_endpoint, names_disabled_slot, names_last, names_no_place, need, next_command, next_take, no_device, nothing, noting_post, number_behind, number_reported, on_crossing, on_position, on_ring, open_goals, open_leases, open_on, open_ranges, opening, other_posted, passed, passes_end, placed, placed_on, pointed, pointers_after, pointers_at, pointers_for, positions_given, post_of, posted, posts_posted, range_of_command, range_of_device, range_of_entry, read_tests, register_read, register_row, register_tests, register_written, report_code, report_error, report_goals, report_stop, report_success, reported, reported_on, reset, resets, resting, restored_on, rests_with, ring_bound, ring_having, ring_moved, ring_placed, ring_restored, row_done, run_or_stop, rung, runs_again, runs_once, saves_badly, seen_by_look, segment_ranges, set_to, shape_of, shows, shows_first_lap, slots, some_command, some_crossed, some_flips, some_given, spot_named, spot_on, spots_before, spots_between, status_read, steps_before, steps_for, steps_made, stop_ended, stop_goal, stopped_at, stopped_goals, stopped_number, stopped_with, stored, stored_block, streams_in, succeeded, table_range, taken_device, taken_on, taken_up_to, takes_bad_device, takes_of, target, touches_endpoint, touches_ring, transfer_read, transferred, transferred_at, transfers_passed, type_in, typed, unchains, unfinished, unfinished_positions, unreported, unrestored, until_halted, valued, waits, was_stop_seen, while_running, with_command_ring, with_dequeue, with_device, with_reported, with_ring, with_stopped, with_word, without_descriptor, without_ring, world_changed_by, world_changed_by_all, world_disabled, world_in_state, world_typed, write_tests, written}
pub use Rattle.safety.proofs.RingsKeep.Writing.{free_or_same, is_no_other, keeps_cycles, may_write, none_crossed, none_given, none_of_both, not_the_controllers, unchained_is}
