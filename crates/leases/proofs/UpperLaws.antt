-- Words and lemmas, passed on to the files above them
pub use Rattle.leases.proofs.BaseWords.{AllUnended, Apart, AreLent, AreOpen, AreShapedAlike, Begins, Block, BlockKind, Bool, CertificateLog, Cmd, Command, CommandCompletion, Crossing, DeviceContext, DriverKeeps, EndpointRings, Ends, EntriesFit, EntryFits, Erstba, Erstsz, EventFacts, EventSegment, Evt, FindsPlaces, FindsRanges, FloorsMove, FollowedList, FollowsCertificate, FollowsList, FollowsRing, FollowsTrace, FreeRow, FreeWasGiven, Given, GivesCrossing, Header, HoldsAll, HoldsLents, IndexTables, InputContext, IsAmong, IsComing, IsCrossed, IsDriverRing, IsFound, IsGivenBy, IsHeader, IsIn, IsInStep, IsNextRow, IsOnly, IsOnlyAt, IsOtherRing, IsOtherRow, IsPlaced, IsPlacedSo, IsRangeFound, IsRestored, IsShape, IsShapedAlike, IsTransferRing, Known, KnowsOpen, Lease, LeaseBook, Leased, Lent, Link, List, MovesOn, MovesRing, None, Option, Position, Range, RangeIndexes, Read, Reg, Register, Restores, Ring, RingGiving, RingKeeps, RingKind, RingPlace, RingRecord, RingRow, RingSpot, RingView, Row, RowPlace, SameDriver, Segment, SegmentTable, SetTrDequeue, Shape, SlotEntry, SlotIsFree, Some, Spot, StandFrom, StandsAt, TablesFit, TraceRecord, TransferEvent, Usbcmd, Use, Withdraws, Write, Xfer, [], address_inside, address_of, all_from_one, among_at, among_is, and_false, and_from, and_parts, and_then_parts, any_append, any_of, ap, append-nil, area_parts, arith, base_address, both_told, both_ways, cases_Bool, cases_option, changed, cleared_apart, code, command_found, command_id_is, command_is_ring, command_of, command_place, command_taken, completion_facts, cond-false, cond-true, cond_both, contains_first, counted_code, crossed_link, crossing_positive, crossings_of, data_not_link, device_context_bytes, driven, driven_kind, due_has_ring, due_is, endpoint, eq-eqb, eqb-false, eqb-true, event_facts, event_here, event_same, false, false_from_ne_true, false_unless, false≢true, filter, filter-append, find_some, flat_map, floor_behind, floor_given, floor_number, floors_grow, found_before, found_in, found_new, from_filter, get_or, get_or-map, given_count, gives, gives_crossing, gives_crossing_is, gives_is, gives_one, has_isoch, has_place, id_of, id_or_none, if◌then◌else◌, in_among, in_filter, index_at, index_in, inl, inr, is_bad_segment, is_behind, is_command_completion, is_command_kind, is_crossing, is_crossing_due, is_done, is_driver_kind, is_event_kind, is_freed, is_handed_over, is_in_run, is_input_context, is_inside, is_moved_past, is_of_ring, is_of_service, is_of_slot, is_open_of, is_passed, is_ring, is_some, is_stopping, is_success, is_transfer_event, is_transfer_kind, kind, le-leb, le-ltb, leased_is, leb-true, length, length-map, length_from, lenient, let_go, link_address, link_address_inside, link_crossed, link_of-crossed, list_any, list_any-append, lt-ltb, ltb-true, map, max, moved_when, named, named_ahead, named_context, named_if_taken, nat_le, nat_lt, nat_tests, ne_eqb, new_ring, newly_open, next_at_floor, next_command, no_command_ring, no_id, no_ring, none-some, none_found, none_here, not, not-true, not_found, noted_past, number, number-after, number_at, option_and_then, option_map, or_cases, or_false, or_left, or_parts, place_count, place_of, pointer, position, position_given_is, positions_of, put, range_with_len, refl, register_facts, reset_bit, restored, ring_elsewhere, ring_found, ring_here, ring_shape, ring_with, rules, rules_of, same_Some, same_due, same_due_crossing, same_leased, same_number, segments_in_turn, shape_allowed, shape_or, shape_there, share_a_place, shares_use, slice_get, slice_get-get_or, slice_get_cases, slice_get_read, slice_get_within, slot, slot_left, slot_let_go, slot_ranges, slot_taken, subst, suc, sym, take, take_all, take_more, taking, target, test_of, tests_fail, together, touches, transfer_driver, transfer_not_command, true, unwrap_or, written_device, written_devices, zero, ℕ, ◌%◌, ◌&&◌, ◌*◌, ◌++◌, ◌+◌, ◌-◌, ◌<◌, ◌==◌, ◌^◌, ◌||◌, ◌∙◌, ◌∷◌, ◌≡◌, ◌≢◌, ◌≤◌, ◌⊎◌}
unfoldable pub use Rattle.leases.proofs.BaseWords.{agree, as_lease, begins_as, begun_at, code_told, come_to, comes_before, command_at, command_given, command_id, command_ring, completed, context_ranges, crossings_given, device_named, device_ranges, driver_rings, due_crossings, due_positions, ended_at, ended_where, entry_of, entry_ranges, event_at, event_read, event_ring, event_shape, event_size, forgotten, given_by, given_of, given_up, goes_badly, gone, grown, has_words_of, held_at_given, in_order, in_turn, is_among, is_bad_free, is_bad_kind, is_bad_register, is_bad_ring, is_lent, is_place_free, is_unended, is_use_free, learned, lease_of, leased_crossings, leased_positions, lenient_tests, lents, link_of, nothing, on_ring, open_leases, open_on, open_ranges, passed_on, positions_given, precedes, range_of_command, range_of_context, range_of_device, range_of_entry, reset, resets, restored_on, ring_moved, ring_restored, segment_lease, segment_ranges, shape_of, slots, spot_on, table_range, taken_device, transfer_read, transferred_at, unrestored, with_begun, with_device, with_leased, with_ring, with_word, without_end, without_ring, written}
pub use Rattle.leases.proofs.CertificateLogs.Tables.{IsNumbered, block_numbered, link_numbered, number_alike, number_of, places_of, range_numbered, share_alike}
pub use Rattle.leases.proofs.LeaseBooks.Finishing.{finish_lent}
pub use Rattle.leases.proofs.LeaseBooks.FirstRanges.{first_ranges}
pub use Rattle.leases.proofs.LeaseBooks.FreePlaces.{block_free, none_open_shares, none_shares, unlent_free}
pub use Rattle.leases.proofs.LeaseBooks.Transferring.{transfer_lent}
pub use Rattle.leases.proofs.LeaseRows.EndedRanges.{device_lent, disables_none, endpoint_driven, endpoint_named, ends_all, leaves_empty, leaves_none, leaves_two, lent_of, moved_is, moved_none, moves_none, none_ended, none_of, none_past, one_ended, one_of, some_past, transfer_drives, two_ended}
pub use Rattle.leases.proofs.LeaseRows.OtherRows.{among_drivers, are_shaped, declared_given, from_drivers, held_still, lent_again, lent_register, on_both, on_more, other_held, other_row, other_table, resets_none, table_begins}
pub use Rattle.leases.proofs.MiddleLaws.{AreShaped, Finishes, HasUse, HoldsOfRanges, InOn, IsNoTable, IsOpen, IsRange, IsWithinLap, Moves, added, added_last, agree_begun, agree_ended, agree_unended, all_anew, all_behind, all_ended, all_more, all_same, all_twice, always_ok, apart_less, at_less, at_some, begun_is_unended, begun_none, begun_twice, block, block_ends, block_found, block_itself, command_same, commanded_elsewhere, commanded_here, commanded_nowhere, completed_device, context_open, context_put, device_open, device_put, driver, each_open, either_holds, either_into, ended_alike, entries, entries_kept, entry_aligned, entry_open, entry_put, event_count, filter_alike, filter_all, filter_flat_map, filter_twice, first_are_ranges, first_found, first_list, first_one, five_into, flat_alike, flat_none, floors, free_none, from_flat_map, from_map, from_range, from_turn, given_by_one, given_nowhere, gone_are_ranges, in_either, in_events, in_flat_map, in_left, in_on, in_range, in_right, in_slice, is_left, is_segment, kept_on_rings, lease_given, length_held, link, link_ends, link_found, link_itself, list_begun, map_append, map_map, named_at, never_ends, new_on_rings, no_context, no_events, no_table, none_between, none_less, none_more, none_new, none_over, none_passed, none_taken, none_there, not_touched, nothing_new, nothing_passed, of_range, one_context, one_fewer, one_less, one_more, only, only_alike, only_begun, only_more, only_passed, open_alike, open_are_ranges, open_same, others, others_begin, over_alike, passed_block, passed_by, passed_crossing, passed_open, put_at, range_apart, range_begins, range_ends, range_found, range_none, range_open, ring_open, same_more, segment_is, segment_open, segments_are, segments_begin, slot_is, some_end, sorted, stands, stands_only, still_free, still_free_slot, still_lent, table_open, table_put, takes_no_more, takes_none, takes_one, tells_whole, to_turn, use_of_command, whole_tells}
pub use Rattle.leases.proofs.RingLeases.OpenFree.{freed_are, restored_open, withdrawn_open}
pub use Rattle.leases.proofs.RingLeases.OpenParts.{AllAre, all_both, contexts_are, contexts_same, devices_are, devices_same, entries_are, entries_same, filter_alike_in, filter_out, is_table, no_contexts, open_context, open_segment, open_slot, part_of, rings_no_range, segments_same, table_same, tables_are}
pub use Rattle.leases.proofs.RingLeases.SegmentsStand.{segments_stand}
pub use Rattle.leases.proofs.RingLeases.WithinALap.{all_passed}
