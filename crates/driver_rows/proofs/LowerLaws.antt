-- Words and lemmas, passed on to the files above them
pub use Rattle.driver_rows.proofs.ContextRules.BadContents.{bad_content}
pub use Rattle.driver_rows.proofs.ContextRules.Chains.{both_hold, goes_on, stops}
pub use Rattle.driver_rows.proofs.ContextRules.EntrySlots.{begins_behind, ends_before}
pub use Rattle.driver_rows.proofs.ContextRules.EventShapes.{no_events}
pub use Rattle.driver_rows.proofs.ContextRules.FittingCommands.{aligned_at, good_fits}
pub use Rattle.driver_rows.proofs.ContextRules.LeftOut.{left_out}
pub use Rattle.driver_rows.proofs.ContextRules.NamedContexts.{configure_names}
pub use Rattle.driver_rows.proofs.ContextRules.RestOfRange.{found, go_on, none_behind, none_left, skip}
unfoldable pub use Rattle.driver_rows.proofs.ContextRules.RestOfRange.{any_left}
pub use Rattle.driver_rows.proofs.DeclarationRows.DeclarationRules.{declared_nowhere, declared_on_events, declared_on_ring}
pub use Rattle.driver_rows.proofs.DoorbellRows.Touching.{IsThat, configured_any, configured_fits, named_fits, that_is, touched_is}
pub use Rattle.driver_rows.proofs.MemoryWrites.Given.{cycle_bit, declared_there, interrupts_is, link_there, not_declared, other_is, wrong_is}
pub use Rattle.driver_rows.proofs.MemoryWrites.GivenTests.{first_fails, none_fails}
pub use Rattle.driver_rows.proofs.MemoryWrites.OnRing.{given_by_one, given_nowhere, inside, inside_is, owned_in_events}
pub use Rattle.driver_rows.proofs.RegisterWrites.RegisterReads.{bad_read, read_is}
pub use Rattle.driver_rows.proofs.RegisterWrites.RegisterRows.{bad_erdp, bad_register, fine_erdp, moved_follows, others_follow, passed, passed_is, reset_fine, reset_is, resets_as, resets_never, stays_follows, step_is, without_gap}
pub use Rattle.driver_rows.proofs.RegisterWrites.RegisterTests.{by_version, none_older, of_crcr, of_erstba, of_other_registers, of_restored}
pub use Rattle.driver_rows.proofs.RegisterWrites.StartRules.{Lacks, at_reset, at_start, few_segments, no_events_unwritten, table_is}
pub use Rattle.driver_rows.proofs.RingBindings.BoundFlags.{of_address, of_configure, of_nothing, of_others, off_only}
pub use Rattle.driver_rows.proofs.RingBindings.Lists.{and_true, any_or, crossed, map_twice, or_assoc, or_none, or_true}
pub use Rattle.driver_rows.proofs.RingBindings.RingRecords.{IsRecordOf, bad_dequeue, bad_stay, driver, having_transfer, is_there, left_over, of_transfer, placed}
pub use Rattle.driver_rows.proofs.RingRows.KeptRings.{coming_kept, going_kept, withdrawing_kept}
pub use Rattle.driver_rows.proofs.RingRows.Lists.{at_set, read_there}
pub use Rattle.driver_rows.proofs.RingRows.NamedRings.{is_found}
pub use Rattle.driver_rows.proofs.RingRows.OtherCommands.{other_commands, same_twice}
pub use Rattle.driver_rows.proofs.Words.{AddressDevice, Apart, BadCommand, BadFree, BadMove, BadRegister, Bell, Binding, Block, BlockKind, Bool, Bound, Busy, Cmd, Comes, Command, Config, ConfigureEndpoint, Contains, ContextsFit, Crcr, Crossing, Dcbaap, Declares, DeviceKeeps, DeviceRecord, DriverKeeps, EndpointState, EntryFits, Err, Erstba, EventState, Evt, FitsMemory, FollowsDevices, FollowsEvents, FollowsRing, FollowsRings, FollowsTrace, FollowsUnfinished, FreeRow, GivesCommandAt, GivesOnPosition, GivesOne, Goes, HasBound, HasEndpoint, HasNoEvents, HasStopped, Header, HoldsAreas, HoldsBound, HoldsContexts, HoldsDropped, HoldsSoiled, IfErr, IfRefused, IfSome, Inserted, IsAligned, IsAllowed, IsAmong, IsClear, IsComing, IsDeclared, IsDriverRing, IsFinder, IsGivenBy, IsGivenOn, IsHeader, IsIn, IsInserted, IsLeast, IsNotPassed, IsOnlyAbout, IsPlaced, IsPlacedSo, IsRingAt, IsRowStep, IsShape, IsTransferAt, IsTransferRing, IsWith, Known, LiesOnWords, LinkFault, List, MayBeGiven, Memory, NamesTransfer, None, NotAsSubmitted, NotDeclared, NotInProfile, NotWhole, Ok, OnOk, Opens, Option, Position, Profile, Refusal, Refused, Reg, Restores, Result, Ring, RingBinding, RingChange, RingGiving, RingKind, RingRecord, RingSet, RingView, Row, RowPlace, SameCommands, SameRegisters, SetTrDequeue, Shape, Some, StartedIsThere, StepFault, Sub, Test, TraceRecord, Usbcmd, Withdraws, Write, WriteToOwned, Writes, Wrong, Xfer, [], absent, address_aligned, address_ends, address_inside, address_of, address_taken, after_declaration, after_word, after_write, all_kept, all_more, allowed_gives, among_at, and_false, and_from, and_left, and_parts, and_right, any_append, any_filter, any_flat_map, any_in, any_map, any_nowhere, any_of, any_same, ap, are_bad, area_parts, arith, as_binding, as_list, bad_same, base_address, beside_old, binding_at, binding_of, binds_ring_beside, binds_ring_if, binds_same, bound_same, cases_Bool, cases_eq, cases_lt, ceiling, ceiling_within, changed, clash, cleared, command_by_kind, command_found, command_id_is, command_is, command_of, command_on, commands_come, cond-false, cond-true, cond_both, cons_option, crossing_tests, crossings_given, crossings_of, cycle_of, declared, dequeue_in, device_context_bytes, device_contexts, due_has_ring, each_among, eq-eqb, eqb-true, erdp_address, events_come, events_go, f_keeps, fails_in, false, false_from_ne_true, false_unless, false≢true, filter, filter_map, find, first_broken, first_broken-is, first_of, floor_number, follows_beside, found_at, frees_badly, fresh, from_not, fun_ext, get_or, given_by_ring, given_facts, given_from, given_tests, gives_is, gone, has, has_flag, has_runs, has_stopped, header_parts, id_or_none, if◌then◌else◌, in_range, index_of, inl, input_add_flag, input_context_bytes, inputs_of, inr, is_about, is_address_device, is_bad, is_below, is_command_kind, is_done, is_driver_kind, is_dropped, is_event_kind, is_event_place, is_in_run, is_in_set, is_inside, is_kept_ring, is_left, is_left_out_by, is_lenient, is_misplaced, is_none, is_not_restored, is_not_whole, is_off, is_open, is_restored, is_ring, is_same, is_set, is_shape, is_slot, is_some, is_stopped, is_table_fault, is_the_controllers, is_to, is_transfer_kind, is_transfer_ring, kept_others, le-ltb, leaves, length, length-set, link_aligned, link_ends, list_all, list_any, list_any_at, listed_unfinished, long_at, lt-ltb, ltb-true, map, max, may_stand_together, named, named_context, named_endpoint, named_slot, names, names_below, names_disabled_endpoint, names_disabled_slot, nat_le, nat_lt, nat_tests, ne_eqb, no_command, no_command_here, no_command_ring, no_driver, no_driver_event, no_event, no_ring, none-some, none_found, none_has_256, none_here, none_nowhere, not, not-false, not-true, not_found, not_from_false, nothing_broken, number_of, number_rung, numbers_apart, on_ok_weaker, one_driver, option_and_then, option_map, or_false, or_from, or_left, or_parts, or_right, overlap, overlaps_none, place_tests, position, position-None, position_given_is, position_tests, positions_given, positions_of, profile_of, put, put_pair, range_with_len, refl, register_or_zero, remove, reset_bit, ring_elsewhere, ring_found, ring_here, ring_shape, ring_untouched, ring_with, rings_overlap, room_tests, rules, rules_of, rung_first, rung_later, same_Some, same_blocks, same_or_apart, segment_some, set, shape_allowed, shape_of, shape_there, slice_get, slice_get_cases, slice_get_read, slice_get_within, slot, slot_entry, some_of, stopped_with, subst, suc, sym, table_bytes, take, take-length, taken, taking, together, together_kept, together_more, touches, touches-word, touches_event_segment, touches_segment, true, unchanged, unfinished_declared, unfinished_rung, unfinished_same, unrestored, unwrap_or, was_bound, with_item, with_stopped, word, write_leaves, written_device, written_device_none, written_devices, written_memory, written_with, written_without, zero, ℕ, ◌%◌, ◌&&◌, ◌*◌, ◌++◌, ◌+◌, ◌-◌, ◌/◌, ◌<◌, ◌==◌, ◌^◌, ◌||◌, ◌∙◌, ◌∷◌, ◌≡◌, ◌≢◌, ◌≤◌, ◌⊎◌}
unfoldable pub use Rattle.driver_rows.proofs.Words.{added_endpoints, adds_bad, adds_left_out, binding_in, bindings_from, binds, binds_again, binds_ring, broken, changes_owned, command_at, command_given, command_id, command_ring, context_ranges, covers, descriptor_length, device_named, device_ranges, driver_rings, drops, endpoint_rung, entry_of, entry_ranges, event_ring, event_shape, flips_passed, forgotten, goes_badly, has_bad_context, has_bad_entry, has_busy_slot, has_left_out_endpoint, has_repeats, holds_of, interrupts, is_among, is_bad_added_in, is_bad_area, is_bad_binding, is_bad_command, is_bad_command_register, is_bad_crcr, is_bad_dequeue, is_bad_device, is_bad_free, is_bad_kind, is_bad_place, is_bad_register, is_bad_ring, is_bad_segment, is_bad_stay, is_bad_withdraw, is_being_bound, is_being_moved, is_had, is_in_range_lease, is_in_use, is_kept, is_left_out_in, is_no_descriptor, is_no_first_block, is_not_declared, is_other_than_declared, is_passed, is_placed, is_soiled, is_taken, is_touched, is_unwritten, is_wrong_link, is_wrong_size, leads_wrong, learned, lease_bytes, lease_start, lenient, lenient_tests, moves_ring, no_device, older, on_crossing, on_position, on_ring, open_ranges, places_badly, range_of_command, range_of_context, range_of_device, range_of_entry, restored_on, ring_bound, ring_having, ring_moved, ring_restored, rung, segment_ranges, shows_first_lap, slots, some_command, some_crossed, some_flips, some_given, stricter, table_range, taken_device, takes_bad_device, tests, touches_endpoint, touches_entry, touches_ring, unfinished, unfinished_positions, with_device, with_ring, with_word, withdraws_badly, without_ring, write_tests, writes_to_owned}
pub use Rattle.driver_rows.proofs.WriteEffects.Followed.{devices_then, events_still, from_three, registers_still, soiled_then}
pub use Rattle.driver_rows.proofs.WriteEffects.GivenEndpoint.{given_endpoint}
pub use Rattle.driver_rows.proofs.WriteEffects.Inserting.{area_added, mapped_with}
pub use Rattle.driver_rows.proofs.WriteEffects.SlotLists.{listed_with}
pub use Rattle.driver_rows.proofs.WriteEffects.Taking.{entry_is, named_is, none_under_lease, soiled_with, takes_named, takes_none, takes_nothing}
pub use Rattle.driver_rows.proofs.WriteEffects.WordsOutside.{nothing_changed}
