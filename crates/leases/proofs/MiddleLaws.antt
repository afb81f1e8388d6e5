-- Words and lemmas, passed on to the files above them
pub use Rattle.leases.proofs.BaseWords.{AllUnended, Apart, AreLent, AreOpen, AreShapedAlike, Begins, Bell, Block, BlockKind, BlockPlace, Bool, CertificateLog, Cmd, Command, CommandCompletion, Crossing, Dcbaap, DeviceContext, DisableSlot, DriverKeeps, EndpointRings, EndpointState, Ends, EntriesFit, EntryFits, Error, Erstba, Erstsz, EventFacts, EventSegment, Evt, FindsPlaces, FindsRanges, FloorsMove, FollowedList, FollowsCertificate, FollowsList, FollowsRing, FollowsTrace, FreeRow, FreeWasGiven, Given, GivesCrossing, Header, HoldsAll, HoldsLents, IndexTables, InputContext, IsAmong, IsComing, IsCrossed, IsDriverRing, IsFound, IsGivenBy, IsHeader, IsIn, IsInStep, IsNextRow, IsOnly, IsOnlyAt, IsOtherRing, IsOtherRow, IsPlaced, IsPlacedSo, IsRangeFound, IsRestored, IsShape, IsShapedAlike, IsTransferRing, Known, KnowsOpen, Lease, LeaseBook, Leased, Lent, Link, LinkPlace, List, MovesOn, MovesRing, None, NopRow, OnOk, Option, Position, Range, RangeIndexes, Read, Reg, RegRead, Register, Restores, Result, Ring, RingChange, RingGiving, RingKeeps, RingKind, RingPlace, RingRecord, RingRow, RingSpot, RingView, Row, RowPlace, SameDriver, Segment, SegmentTable, SetTrDequeue, Shape, SlotEntry, SlotIsFree, Some, Spot, StandFrom, StandsAt, Sub, TablesFit, TraceRecord, TransferEvent, Trb, Usbcmd, Use, Withdraws, Write, Xfer, [], address_inside, address_of, all_from_one, among_at, among_is, and_false, and_from, and_parts, and_then_parts, any_append, any_of, ap, append-nil, are_apart, area_parts, arith, base_address, both_told, both_ways, cases_Bool, cases_option, changed, cleared_apart, code, command_found, command_id_is, command_is_ring, command_of, command_place, command_taken, completion_facts, cond-false, cond-true, cond_both, contains_first, counted_code, crossed_link, crossing_positive, crossings_of, data_not_link, device_context_bytes, driven, driven_kind, due_has_ring, due_is, endpoint, eq-eqb, eqb-false, eqb-true, event_facts, event_here, event_same, false, false_from_ne_true, false_unless, false≢true, filter, filter-append, find_some, flat_map, floor_behind, floor_given, floor_number, floors_grow, found_before, found_in, found_new, from_filter, fun_ext, get_or, get_or-map, given_count, gives, gives_crossing, gives_crossing_is, gives_is, gives_one, has_isoch, has_place, header_now, id_of, id_or_none, if◌then◌else◌, in_among, in_filter, index_at, index_in, inl, inr, is_bad_segment, is_behind, is_command_completion, is_command_kind, is_crossing, is_crossing_due, is_done, is_driver_kind, is_event_kind, is_freed, is_halting, is_handed_over, is_in, is_in_run, is_input_context, is_inside, is_moved_past, is_of_ring, is_of_service, is_of_slot, is_open_of, is_passed, is_ring, is_some, is_stopping, is_success, is_transfer_event, is_transfer_kind, is_trb_error, is_withdrawn, kind, known_now, le-leb, le-ltb, learned_or_reset, leased_is, leased_itself, leb-true, length, length-map, length_from, lenient, let_go, link_address, link_address_inside, link_crossed, link_of-crossed, list_any, list_any-append, lt-ltb, ltb-true, map, max, moved_by, moved_on, moved_ring, moved_when, named, named_ahead, named_context, named_if_taken, nat_le, nat_lt, nat_tests, ne_eqb, new_ring, newly_open, next_at_floor, next_command, no_command_ring, no_id, no_ring, none-some, none_found, none_here, not, not-true, not_found, noted_past, number, number-after, number_at, open_now, option_and_then, option_map, or_cases, or_false, or_left, or_parts, overlap, place_count, place_of, pointer, position, position_given_is, positions_of, put, range_with_len, refl, register_facts, reset_bit, restored, ring_elsewhere, ring_found, ring_here, ring_shape, ring_with, rules, rules_of, same_Some, same_due, same_due_crossing, same_leased, same_number, segment_some, segments_in_turn, segments_overlap, shape_allowed, shape_or, shape_there, share_a_place, shares_use, slice_get, slice_get-get_or, slice_get_cases, slice_get_read, slice_get_within, slot, slot_disabled, slot_left, slot_let_go, slot_ranges, slot_taken, subst, suc, sym, table_bytes, take, take_all, take_more, taking, target, test_of, tests_fail, together, touches, transfer_driver, transfer_not_command, true, unwrap_or, with_register, written_device, written_devices, zero, ℕ, ◌&&◌, ◌*◌, ◌++◌, ◌+◌, ◌-◌, ◌<◌, ◌==◌, ◌^◌, ◌||◌, ◌∙◌, ◌∷◌, ◌≡◌, ◌≢◌, ◌≤◌, ◌⊎◌}
unfoldable pub use Rattle.leases.proofs.BaseWords.{agree, as_lease, begins_as, begun_at, broken_off, code_told, come_to, comes_before, command_at, command_given, command_id, command_ring, completed, context_ranges, crossings_given, device_named, device_ranges, driver_rings, due_crossings, due_positions, ended_at, ended_where, entry_of, entry_ranges, event_at, event_read, event_ring, event_shape, event_size, forgotten, given_by, given_of, given_up, goes_badly, gone, grown, has_words_of, held_at_given, in_order, in_turn, is_among, is_bad_free, is_bad_kind, is_bad_register, is_bad_ring, is_lent, is_place_free, is_unended, is_use_free, learned, lease_of, leased_crossings, leased_positions, lenient_tests, lents, link_of, nothing, on_ring, open_leases, open_on, open_ranges, passed, passed_on, positions_given, precedes, range_of_command, range_of_context, range_of_device, range_of_entry, reset, resets, restored_on, ring_moved, ring_restored, segment_lease, segment_ranges, shape_of, slots, spot_on, stopped_at, table_range, taken_device, transfer_read, transferred, transferred_at, unfinished_positions, unrestored, with_begun, with_device, with_leased, with_ring, with_word, without_end, without_ring, written}
pub use Rattle.leases.proofs.CertificateLogs.Ending.{agree_ended, never_ends, none_there, one_fewer, open_alike}
pub use Rattle.leases.proofs.CertificateLogs.Standing.{apart_less, block_itself, free_none, itself, link_itself, range_apart, range_none, stands_only}
pub use Rattle.leases.proofs.LeaseBooks.FirstBook.{first_are_ranges, first_found, first_list, open_at_first}
pub use Rattle.leases.proofs.LeaseBooks.LettingGo.{Finishes, HasUse, gone_are_ranges, only, ranges_narrow, slot_apart, use_of_command}
pub use Rattle.leases.proofs.LeaseBooks.Narrowing.{Narrows, floors, is_left, narrows, none_between, one_ring_left}
pub use Rattle.leases.proofs.LeaseBooks.OpenLent.{in_step_behind, in_step_first, still_lent, to_turn}
pub use Rattle.leases.proofs.LeaseBooks.SegmentRanges.{all_behind, in_slice, is_segment, segment_is, segments_are, segments_begin}
pub use Rattle.leases.proofs.LeaseBooks.TableAlone.{IsNoTable, lent_table, no_table}
pub use Rattle.leases.proofs.LeaseBooks.Writing.{AreShaped, filter_flat_map, kept_on_rings, lease_given, new_on_rings}
pub use Rattle.leases.proofs.LeaseRows.LentEvents.{entries}
pub use Rattle.leases.proofs.LowerLaws.{HoldsOfRanges, InOn, IsOpen, IsPut, IsRange, IsWithinLap, Moves, added, added_last, agree_begun, agree_unended, all_anew, all_ended, all_more, all_same, all_twice, always_ok, and_true, array_stands, at_less, at_some, begun_is_unended, begun_none, begun_twice, bell_same, block, block_ends, block_found, command_same, commanded_elsewhere, commanded_here, commanded_nowhere, completed_device, context_open, context_put, device_open, device_put, driver, each_open, either_holds, either_into, elsewhere, ended_alike, entries_kept, entry_aligned, entry_open, entry_put, event_count, filter_alike, filter_all, filter_mapped, filter_none, filter_twice, first_one, first_open, five_into, flat_alike, flat_none, from_flat_map, from_map, from_range, from_turn, from_with, given_by_one, given_nowhere, in_either, in_events, in_flat_map, in_left, in_on, in_range, in_right, length_held, link, link_ends, link_found, list_begun, map_append, map_map, named_at, no_context, no_events, none_less, none_more, none_new, none_over, none_passed, none_taken, not_touched, nothing_new, nothing_passed, of_range, one_context, one_less, one_more, only_alike, only_begun, only_ended, only_more, only_passed, only_same, open_are_ranges, open_same, others, others_begin, over_alike, passed_block, passed_by, passed_crossing, passed_open, put_at, range_begins, range_ends, range_found, range_open, read_same, reg_same, ring_open, same_more, segment_open, slot_is, some_end, sorted, stands, still_free, still_free_slot, sub_same, table_open, table_put, table_stands, takes_no_more, takes_none, takes_one, tells_whole, whole_tells}
