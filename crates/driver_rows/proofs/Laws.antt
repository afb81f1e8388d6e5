-- What the answers cite: the words, and this crate's lemmas
pub use Rattle.driver_rows.proofs.DeclarationRows.Declared.{declared_bad, declared_ok, on_events, undeclared}
pub use Rattle.driver_rows.proofs.DoorbellRows.Ringing.{follows_rung}
pub use Rattle.driver_rows.proofs.MemoryWrites.WriteSteps.{IsTold, allowed, judged, nowhere_allowed, said_here}
pub use Rattle.driver_rows.proofs.MiddleLaws.{IsRecordOf, IsThat, Lacks, again_is, and_true, any_added, any_context, any_device, any_entry, any_range, any_table, area_added, at_reset, at_start, bad_content, bad_dequeue, bad_erdp, bad_first, bad_is, bad_read, bad_register, bad_stay, begins_behind, below_all, below_next, below_none, bindings_at, bindings_end, binds_ring_is, both_hold, by_version, clear_header, clear_together, comes_so, coming_kept, configure_names, configured_any, configured_fits, crossed, cycle_bit, declared_there, devices_then, ends_before, entry_above, entry_fits, entry_is, event_flips, few_segments, fine_erdp, first_fails, flips_by_others, forgets, found, from_three, go_on, goes_on, going_kept, having_transfer, here_on, if_both, if_ok, if_refused, interrupts_is, is_found, is_there, kept_is, left_is, left_out, left_over, lies_well, link_there, mapped_with, may, may_be_given, may_not, may_now, moved_by_others, moved_follows, named_fits, named_here, named_is, new_command, new_device, no_events, no_events_unwritten, none_behind, none_fails, none_flips, none_keeps, none_left, none_of, none_older, none_past, none_under_lease, not_declared, not_passed, noted, nothing_bad, of_address, of_configure, of_crcr, of_dequeue, of_erstba, of_none, of_nothing, of_other_registers, of_others, of_restored, of_some, of_table, of_transfer, off_only, only_on, or_assoc, or_last, or_none, or_true, other_is, others_follow, owned, owned_by_events, passed, passed_is, passes_below, placed, read_is, read_there, reset_fine, reset_is, resets_as, resets_never, restored_by_others, ring_flips, rings_with, rings_without, skip, soiled_then, soiled_with, stays_follows, step_is, stops, table_is, taken_next, takes_named, takes_none, takes_nothing, that_is, touched_is, withdrawing_kept, without_gap, wrong_is}
unfoldable pub use Rattle.driver_rows.proofs.MiddleLaws.{any_left}
pub use Rattle.driver_rows.proofs.RingBindings.LeftRings.{left_end, left_next, left_skipped, nothing_left}
pub use Rattle.driver_rows.proofs.RingRows.AtRest.{nobody, rests, runs_on, unlisted}
pub use Rattle.driver_rows.proofs.RingRows.OneRing.{floor_low, known_read, left_so, passed_so, restored_so, with_record, withdrawn_so}
pub use Rattle.driver_rows.proofs.RingRows.Went.{another_there, bound_so, frees_as, frees_fine, frees_none, goes_so, had_so, rest_header, rest_is, ring_numbered, started_there}
pub use Rattle.driver_rows.proofs.Words.{AddressDevice, BadRegister, Bool, Cmd, Command, Config, ConfigureEndpoint, ContextsFit, Crcr, Crossing, Dcbaap, DriverKeeps, Erstba, EventState, FitsMemory, FollowsDevices, FollowsEvents, FollowsRing, FollowsTrace, FollowsUnfinished, HasBound, Header, HoldsAreas, HoldsContexts, HoldsDropped, HoldsSoiled, IsFinder, IsGivenBy, IsHeader, IsPlaced, IsPlacedSo, IsWith, Known, LiesOnWords, List, NamesTransfer, None, Opens, Option, Position, Reg, Ring, RingBinding, RingKind, RingView, Some, Usbcmd, Write, Wrong, [], address_aligned, address_ends, address_taken, among_at, and_from, and_left, and_parts, and_right, ap, are_bad, arith, as_binding, as_list, cond-false, cond-true, crossing_tests, crossings_of, declared, device_context_bytes, device_contexts, eq-eqb, eqb-true, erdp_address, false, false≢true, first_broken, first_of, floor_number, from_not, get_or, given_from, gone, has, has_flag, has_runs, if◌then◌else◌, index_of, inl, input_add_flag, input_context_bytes, inputs_of, inr, is_address_device, is_command_kind, is_done, is_driver_kind, is_event_kind, is_event_place, is_in_set, is_kept_ring, is_left, is_left_out_by, is_lenient, is_misplaced, is_none, is_off, is_restored, is_ring, is_set, is_some, is_table_fault, is_to, is_transfer_kind, is_transfer_ring, le-ltb, leaves, length, link_aligned, link_ends, list_any, list_any_at, long_at, ltb-true, named_context, named_endpoint, named_slot, names_below, names_disabled_endpoint, names_disabled_slot, nat_lt, ne_eqb, no_command_ring, none_here, not, not-false, not-true, not_found, nothing_broken, on_ok_weaker, option_and_then, or_parts, overlap, place_tests, position_tests, positions_of, range_with_len, refl, register_or_zero, reset_bit, ring_here, ring_with, rules, same_Some, set, slice_get, slice_get_read, slice_get_within, slot_entry, subst, sym, table_bytes, take, take-length, taken, touches, touches_event_segment, touches_segment, true, unwrap_or, was_bound, word, ℕ, ◌%◌, ◌&&◌, ◌*◌, ◌+◌, ◌-◌, ◌/◌, ◌<◌, ◌==◌, ◌^◌, ◌||◌, ◌∙◌, ◌∷◌, ◌≡◌, ◌≤◌}
unfoldable pub use Rattle.driver_rows.proofs.Words.{adds_bad, adds_left_out, bindings_from, broken, command_given, context_ranges, covers, device_named, entry_of, entry_ranges, event_ring, event_shape, has_bad_context, has_bad_entry, has_repeats, interrupts, is_bad_added_in, is_bad_area, is_bad_command, is_bad_command_register, is_bad_crcr, is_bad_dequeue, is_bad_device, is_bad_kind, is_bad_register, is_bad_ring, is_bad_segment, is_bad_stay, is_bad_withdraw, is_being_moved, is_in_range_lease, is_in_use, is_kept, is_left_out_in, is_no_descriptor, is_no_first_block, is_not_declared, is_other_than_declared, is_placed, is_soiled, is_touched, is_unwritten, is_wrong_link, is_wrong_size, leads_wrong, learned, moves_ring, older, on_ring, restored_on, ring_having, ring_moved, ring_restored, shows_first_lap, some_flips, stricter, table_range, taken_device, takes_bad_device, touches_endpoint, touches_entry, touches_ring, unfinished, with_device, with_ring, with_word, withdraws_badly, without_ring, writes_to_owned}
pub use Rattle.driver_rows.proofs.WriteEffects.BoundNow.{given_fits, holds_bound, holds_contexts}
pub use Rattle.driver_rows.proofs.WriteEffects.NotedRings.{noted_here, noted_nowhere}
