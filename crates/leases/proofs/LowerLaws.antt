-- Words and lemmas, passed on to the files above them
pub use Rattle.leases.proofs.BaseWords.{AllUnended, Apart, AreLent, AreOpen, AreShapedAlike, Begins, Bell, Block, BlockKind, BlockPlace, Bool, CertificateLog, Cmd, Command, CommandCompletion, Crossing, Dcbaap, DeviceContext, DisableSlot, DriverKeeps, EndpointRings, EndpointState, Ends, EntriesFit, EntryFits, Error, Erstba, Erstsz, EventFacts, EventSegment, Evt, FindsPlaces, FindsRanges, FloorsMove, FollowedList, FollowsCertificate, FollowsList, FollowsRing, FollowsTrace, FreeRow, FreeWasGiven, Given, GivesCrossing, Header, HoldsAll, HoldsLents, IndexTables, InputContext, IsAmong, IsComing, IsCrossed, IsDriverRing, IsFound, IsGivenBy, IsHeader, IsIn, IsInStep, IsNextRow, IsOnly, IsOnlyAt, IsOtherRing, IsOtherRow, IsPlaced, IsPlacedSo, IsRangeFound, IsRestored, IsShape, IsShapedAlike, IsTransferRing, Known, KnowsOpen, Lease, LeaseBook, Leased, Lent, Link, LinkPlace, List, MovesOn, MovesRing, None, NopRow, OnOk, Option, Position, Range, RangeIndexes, Read, Reg, RegRead, Register, Restores, Result, Ring, RingChange, RingGiving, RingKeeps, RingKind, RingPlace, RingRecord, RingRow, RingSpot, RingView, Row, RowPlace, SameDriver, Segment, SegmentTable, SetTrDequeue, Shape, SlotEntry, SlotIsFree, Some, Spot, StandFrom, StandsAt, Sub, TablesFit, TraceRecord, TransferEvent, Trb, Usbcmd, Use, Withdraws, Write, Writes, Xfer, [], address_inside, address_of, all_from_one, among_at, among_is, and_false, and_from, and_parts, and_then_parts, any_append, any_of, ap, append-nil, are_apart, area_parts, arith, base_address, both_told, both_ways, cases_Bool, cases_option, changed, cleared_apart, code, command_found, command_id_is, command_is_ring, command_of, command_place, command_taken, completion_facts, cond, cond-false, cond-true, cond_both, contains_first, counted_code, crossed_link, crossing_positive, crossings_of, data_not_link, device_context_bytes, devices_without, driven, driven_kind, due_has_ring, due_is, endpoint, eq-eqb, eqb-false, eqb-true, event_facts, event_here, event_same, false, false_from_ne_true, false_unless, false≢true, filter, filter-append, find_some, flat_map, floor_behind, floor_given, floor_number, floors_grow, found_before, found_in, found_new, from_filter, fun_ext, get_or, get_or-map, given_count, gives, gives_crossing, gives_crossing_is, gives_is, gives_one, has_isoch, has_place, header_now, id_of, id_or_none, if◌then◌else◌, in_among, in_filter, index_at, index_in, inl, inr, is_bad_segment, is_behind, is_command_completion, is_command_kind, is_crossing, is_crossing_due, is_done, is_driver_kind, is_event_kind, is_freed, is_halting, is_handed_over, is_in, is_in_run, is_input_context, is_inside, is_moved_past, is_of_ring, is_of_service, is_of_slot, is_open_of, is_passed, is_ring, is_some, is_stopping, is_success, is_transfer_event, is_transfer_kind, is_trb_error, is_withdrawn, kind, known_now, le-leb, le-ltb, learned_or_reset, leased_is, leased_itself, leb-true, length, length-map, length_from, lenient, let_go, link_address, link_address_inside, link_crossed, link_of-crossed, list_any, list_any-append, lt-ltb, ltb-true, map, max, moved_by, moved_on, moved_ring, moved_when, named, named_ahead, named_context, named_if_taken, nat_le, nat_lt, nat_tests, ne_eqb, new_ring, newly_open, next_at_floor, next_command, no_command_ring, no_id, no_ring, none-some, none_found, none_here, not, not-true, not_found, noted_past, number, number-after, number_at, open_now, option_and_then, option_map, or_cases, or_false, or_from, or_left, or_parts, overlap, place_count, place_of, pointer, position, position_given_is, positions_of, put, range_with_len, refl, register_facts, reset_bit, restored, ring_elsewhere, ring_found, ring_here, ring_shape, ring_with, rules, rules_of, same_Some, same_due, same_due_crossing, same_leased, same_number, segment_some, segments_in_turn, segments_overlap, shape_allowed, shape_or, shape_there, share_a_place, shares_use, slice_get, slice_get-get_or, slice_get_cases, slice_get_read, slice_get_within, slot, slot_disabled, slot_left, slot_let_go, slot_ranges, slot_taken, subst, suc, sym, table_bytes, take, take_all, take_more, taking, target, test_of, tests_fail, together, touches, transfer_driver, transfer_not_command, true, unwrap_or, with_register, written_device, written_devices, zero, ℕ, ◌&&◌, ◌*◌, ◌++◌, ◌+◌, ◌-◌, ◌<◌, ◌==◌, ◌^◌, ◌||◌, ◌∙◌, ◌∷◌, ◌≡◌, ◌≢◌, ◌≤◌, ◌⊎◌}
unfoldable pub use Rattle.leases.proofs.BaseWords.{agree, agrees, as_lease, begins_as, begun_at, broken_off, code_told, come_to, comes_before, command_at, command_given, command_id, command_ring, completed, context_ranges, crossings_given, device_named, device_ranges, driver_rings, due_crossings, due_positions, ended_at, ended_where, entry_of, entry_ranges, event_at, event_read, event_ring, event_shape, event_size, forgotten, given_by, given_of, given_up, goes_badly, gone, grown, has_words_of, held_at_given, in_order, in_turn, is_among, is_bad_free, is_bad_kind, is_bad_register, is_bad_ring, is_lent, is_place_free, is_unended, is_use_free, learned, lease_of, leased_crossings, leased_positions, lenient_tests, lents, link_of, nothing, on_ring, open_leases, open_on, open_ranges, passed, passed_on, positions_given, precedes, range_of_command, range_of_context, range_of_device, range_of_entry, register_written, reset, resets, restored_on, ring_moved, ring_restored, segment_lease, segment_ranges, shape_of, slots, spot_on, stopped_at, table_range, taken_device, transfer_read, transferred, transferred_at, unfinished_positions, unrestored, valued, with_begun, with_device, with_leased, with_ring, with_word, without_end, without_ring, written}
pub use Rattle.leases.proofs.CertificateLogs.Agreement.{agree_begun, agree_unended, begun_is_unended, same_beginning}
pub use Rattle.leases.proofs.CertificateLogs.Listed.{tells_whole, whole_tells}
pub use Rattle.leases.proofs.CertificateLogs.OpenPlaces.{at_less, first_one, none_less, only_alike, only_more, only_same}
pub use Rattle.leases.proofs.LeaseBooks.DevicesAfter.{completed_device}
pub use Rattle.leases.proofs.LeaseBooks.Ending.{at_some}
pub use Rattle.leases.proofs.LeaseBooks.EndingRange.{either_holds, not_later, range_ends}
pub use Rattle.leases.proofs.LeaseBooks.Growing.{map_append, map_map, sorted}
pub use Rattle.leases.proofs.LeaseBooks.Holding.{block_ends, link_ends}
pub use Rattle.leases.proofs.LeaseBooks.Members.{InOn, block, either_into, five_into, from_flat_map, from_map, from_range, in_either, in_flat_map, in_left, in_on, in_range, in_right, link, on_in}
pub use Rattle.leases.proofs.LeaseBooks.Ordering.{added, added_last}
pub use Rattle.leases.proofs.LeaseBooks.PassedLeases.{IsWithinLap, Moves, block_was, link_was}
pub use Rattle.leases.proofs.LeaseBooks.Passing.{all_twice, and_true, ended_alike, none_over, none_passed, over_alike, passed_block, passed_crossing}
pub use Rattle.leases.proofs.LeaseBooks.Places.{IsPut, block_found, elsewhere, length_held, link_found, list_begun, put_at, range_found}
pub use Rattle.leases.proofs.LeaseBooks.RangePlaces.{always_ok, context_put, device_put, entry_put, others_begin, range_begins, some_end, stands, table_put}
pub use Rattle.leases.proofs.LeaseBooks.RangesAlone.{HoldsOfRanges, IsRange, context_open, device_open, each_open, entry_open, of_range, open_are_ranges, range_open, ring_open, segment_open, table_open}
pub use Rattle.leases.proofs.LeaseBooks.Rows.{IsOpen, all_new, first_open, from_turn, from_with, none_new, nothing_new, nothing_passed, only_begun, only_ended, only_passed, passed_by, passed_open}
pub use Rattle.leases.proofs.LeaseBooks.SameLeases.{bell_same, command_same, entries_kept, flat_alike, flat_none, lent_same, open_same, read_same, reg_same, sub_same}
pub use Rattle.leases.proofs.LeaseBooks.Unended.{all_anew, all_ended}
pub use Rattle.leases.proofs.LeaseRows.EntriesFit.{array_stands, table_stands}
pub use Rattle.leases.proofs.LeaseRows.EventSegments.{event_count, no_events}
pub use Rattle.leases.proofs.LeaseRows.FloorsMove.{floors_move}
pub use Rattle.leases.proofs.LeaseRows.GivenHere.{commanded_elsewhere, commanded_here, commanded_nowhere, given_by_one, given_nowhere, in_events, not_touched}
pub use Rattle.leases.proofs.LeaseRows.TakenRanges.{all_more, begun_none, begun_twice, entry_aligned, named_at, no_context, none_more, none_taken, one_context, same_more, slot_is, still_free, still_free_slot, takes_no_more, takes_none, takes_one}
pub use Rattle.leases.proofs.RingLeases.Filtered.{filter_alike, filter_mapped, filter_twice}
pub use Rattle.leases.proofs.RingLeases.RingsLeft.{all_same, driver, filter_all, filter_none, one_less, one_more, others}
