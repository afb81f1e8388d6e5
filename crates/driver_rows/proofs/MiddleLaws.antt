-- Words and lemmas, passed on to the files above them
pub use Rattle.driver_rows.proofs.ContextRules.AddedEndpoints.{any_added}
pub use Rattle.driver_rows.proofs.ContextRules.BadEntries.{entry_above}
pub use Rattle.driver_rows.proofs.ContextRules.HeldRanges.{any_context, any_device, any_entry, any_range, any_table, of_table}
pub use Rattle.driver_rows.proofs.DoorbellRows.Followed.{AreOffAs, IsBeside, followed, here_on, none_past, only_on, put_on, rings_noted, rings_same, rings_with, rings_without}
pub use Rattle.driver_rows.proofs.LowerLaws.{IsRecordOf, IsThat, Lacks, aligned_at, and_true, area_added, at_reset, at_start, bad_content, bad_dequeue, bad_erdp, bad_read, bad_register, bad_stay, begins_behind, both_hold, by_version, coming_kept, configure_names, configured_any, configured_fits, crossed, cycle_bit, declared_nowhere, declared_on_events, declared_on_ring, declared_there, devices_then, driver, ends_before, entry_is, few_segments, fine_erdp, first_fails, found, from_three, go_on, goes_on, going_kept, good_fits, having_transfer, inside, inside_is, interrupts_is, is_found, is_there, left_out, left_over, link_there, mapped_with, moved_follows, named_fits, named_is, no_events, no_events_unwritten, none_behind, none_fails, none_left, none_older, none_under_lease, not_declared, nothing_changed, of_address, of_configure, of_crcr, of_erstba, of_nothing, of_other_registers, of_others, of_restored, of_transfer, off_only, or_assoc, or_none, or_true, other_commands, other_is, others_follow, passed, passed_is, placed, read_is, read_there, reset_fine, reset_is, resets_as, resets_never, skip, soiled_then, soiled_with, stays_follows, step_is, stops, table_is, takes_named, takes_none, takes_nothing, that_is, touched_is, withdrawing_kept, without_gap, wrong_is}
unfoldable pub use Rattle.driver_rows.proofs.LowerLaws.{any_left}
pub use Rattle.driver_rows.proofs.MemoryWrites.CommandsOn.{awaits_none, stays_put}
pub use Rattle.driver_rows.proofs.MemoryWrites.RingWrites.{IsStill, least_of_ring, nothing_breaks, owned, owned_by_events}
pub use Rattle.driver_rows.proofs.RingBindings.BindingLists.{again_is, bad_first, bad_is, bindings_at, bindings_end, binds_ring_is, forgets, noted, nothing_bad, of_dequeue, or_last, range_is, taken_next}
pub use Rattle.driver_rows.proofs.RingBindings.KeptRings.{kept_is, left_is, none_keeps, numbered}
pub use Rattle.driver_rows.proofs.RingBindings.SlotWalk.{below_all, below_next, below_none, named_here, of_none, of_some, passes_below}
pub use Rattle.driver_rows.proofs.RingRows.Came.{clear_header, clear_together, comes_so, none_of}
pub use Rattle.driver_rows.proofs.RingRows.GivenAt.{flips_by_others, moved_by_others, restored_by_others}
pub use Rattle.driver_rows.proofs.RingRows.PassedFlips.{event_flips, none_flips, ring_flips}
pub use Rattle.driver_rows.proofs.RingRows.Withdrawn.{if_both, if_ok, if_refused, may, may_not, may_now, not_passed}
pub use Rattle.driver_rows.proofs.Words.{AddressDevice, BadFree, BadRegister, Bell, Block, Bool, Cmd, Command, Config, ConfigureEndpoint, ContextsFit, Crcr, Crossing, Dcbaap, Declares, DeviceRecord, DriverKeeps, Err, Erstba, EventState, Evt, FitsMemory, FollowsDevices, FollowsEvents, FollowsRing, FollowsRings, FollowsTrace, FollowsUnfinished, FreeRow, GivesOnPosition, Goes, HasBound, HasEndpoint, HasStopped, Header, HoldsAreas, HoldsBound, HoldsContexts, HoldsDropped, HoldsSoiled, IfErr, IfRefused, IfSome, IsAligned, IsAllowed, IsAmong, IsComing, IsDeclared, IsDriverRing, IsFinder, IsGivenBy, IsHeader, IsIn, IsLeast, IsPlaced, IsPlacedSo, IsRingAt, IsRowStep, IsShape, IsTransferAt, IsTransferRing, IsWith, Known, LiesOnWords, List, Memory, NamesTransfer, None, NotDeclared, Ok, OnOk, Opens, Option, Position, Profile, Refusal, Refused, Reg, Restores, Result, Ring, RingBinding, RingChange, RingGiving, RingKind, RingRecord, RingSet, RingView, SameCommands, Shape, Some, StartedIsThere, StepFault, Sub, TraceRecord, Usbcmd, Withdraws, Write, Writes, Wrong, Xfer, [], address_aligned, address_ends, address_taken, after_declaration, after_word, all_kept, among_at, and_from, and_left, and_parts, and_right, any_in, any_of, ap, are_bad, arith, as_binding, as_list, beside_old, binds_ring_beside, binds_ring_if, binds_same, cases_Bool, cases_eq, cases_lt, ceiling, ceiling_within, changed, cleared, command_found, command_id_is, command_on, cond-false, cond-true, cond_both, crossing_tests, crossings_given, crossings_of, declared, device_context_bytes, device_contexts, eq-eqb, eqb-true, erdp_address, events_go, false, false_from_ne_true, false_unless, false≢true, filter, first_broken, first_of, floor_number, follows_beside, found_at, frees_badly, from_not, fun_ext, get_or, given_by_ring, given_facts, given_from, given_tests, gone, has, has_flag, has_runs, has_stopped, header_parts, id_or_none, if◌then◌else◌, in_range, index_of, inl, input_add_flag, input_context_bytes, inputs_of, inr, is_address_device, is_command_kind, is_done, is_driver_kind, is_event_kind, is_event_place, is_in_set, is_inside, is_kept_ring, is_left, is_left_out_by, is_lenient, is_misplaced, is_none, is_not_restored, is_off, is_restored, is_ring, is_set, is_some, is_stopped, is_table_fault, is_to, is_transfer_kind, is_transfer_ring, kept_others, le-ltb, leaves, length, link_aligned, link_ends, list_any, list_any_at, listed_unfinished, long_at, ltb-true, named_context, named_endpoint, named_slot, names_below, names_disabled_endpoint, names_disabled_slot, nat_le, nat_lt, nat_tests, ne_eqb, no_command_here, no_command_ring, none_has_256, none_here, none_nowhere, not, not-false, not-true, not_found, not_from_false, nothing_broken, number_of, number_rung, numbers_apart, on_ok_weaker, option_and_then, or_parts, overlap, place_tests, position, position_tests, positions_given, positions_of, profile_of, put, range_with_len, refl, register_or_zero, remove, reset_bit, ring_elsewhere, ring_found, ring_here, ring_with, room_tests, rules, rung_first, rung_later, same_Some, same_blocks, set, shape_allowed, shape_of, shape_there, slice_get, slice_get_read, slice_get_within, slot_entry, some_of, stopped_with, subst, sym, table_bytes, take, take-length, taken, together_kept, touches, touches-word, touches_event_segment, touches_segment, true, unchanged, unfinished_declared, unfinished_rung, unfinished_same, unwrap_or, was_bound, with_item, with_stopped, word, write_leaves, written_memory, ℕ, ◌%◌, ◌&&◌, ◌*◌, ◌++◌, ◌+◌, ◌-◌, ◌/◌, ◌<◌, ◌==◌, ◌^◌, ◌||◌, ◌∙◌, ◌∷◌, ◌≡◌, ◌≢◌, ◌≤◌}
unfoldable pub use Rattle.driver_rows.proofs.Words.{adds_bad, adds_left_out, bindings_from, binds_ring, broken, command_given, command_id, command_ring, context_ranges, covers, device_named, endpoint_rung, entry_of, entry_ranges, event_ring, event_shape, forgotten, goes_badly, has_bad_context, has_bad_entry, has_repeats, interrupts, is_bad_added_in, is_bad_area, is_bad_command, is_bad_command_register, is_bad_crcr, is_bad_dequeue, is_bad_device, is_bad_free, is_bad_kind, is_bad_register, is_bad_ring, is_bad_segment, is_bad_stay, is_bad_withdraw, is_being_bound, is_being_moved, is_had, is_in_range_lease, is_in_use, is_kept, is_left_out_in, is_no_descriptor, is_no_first_block, is_not_declared, is_other_than_declared, is_passed, is_placed, is_soiled, is_touched, is_unwritten, is_wrong_link, is_wrong_size, leads_wrong, learned, lenient, moves_ring, older, on_ring, restored_on, ring_having, ring_moved, ring_restored, rung, shows_first_lap, some_flips, stricter, table_range, taken_device, takes_bad_device, touches_endpoint, touches_entry, touches_ring, unfinished, with_device, with_ring, with_word, withdraws_badly, without_ring, writes_to_owned}
pub use Rattle.driver_rows.proofs.WriteEffects.GivenNow.{entry_fits, lies_well, may_be_given, new_command, new_device}
