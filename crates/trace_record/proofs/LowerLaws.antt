-- Words and lemmas, passed on to the files above them
pub use Rattle.trace_record.proofs.BaseWords.{All, All-head, All-nil, All-tail, AreCounted, AreFresh, AreHints, AreNumbers, AreSummed, Bell, Block, Bool, Bor, Command, Contains, Contains-append_cases, Contains-append_left, Contains-append_right, Contains-get_or, Contains-permutation, Crossing, Data, Dcbaap, DeviceRecord, Endpoint, EndpointState, Err, EventCounts, EventState, Evt, Finder, FollowsDevices, FollowsEvents, FollowsPlace, FollowsRegisters, FollowsRing, FollowsTrace, FollowsUnfinished, HasEndpoint, HasOneHolder, HasRoom, HasSumRoom, Header, Holders, Holds, HoldsAreas, HoldsSoiled, IfSome, IsBinarySearchResult, IsCounted, IsDisabled, IsFinder, IsFreshSo, IsGivenBy, IsHeader, IsNonDecreasingBy, IsNonDecreasingBy-insert, IsOnlyAbout, IsOwnedSo, IsPartitionPoint, IsPartitionPoint-from_clause, IsPartitionedBy-leb, IsPartitionedBy-ltb, IsPermutation, IsPermutation-append_left, IsPermutation-cons, IsPermutation-insert, IsPermutation-middle, IsPermutation-sym, IsPermutation-to_front, IsPermutation-trans, IsPlaced, IsPlacedSo, IsRingBefore, IsShape, IsSummed, IsWithBound, IsWithEndpoint, IsWithSlot, KeptCommand, Known, List, NamesEndpoint, None, Opens, Option, Position, Reaches, Read, Reg, Register, Ring, RingChange, RingGiving, RingKind, RingRecord, RingSpot, RingView, Row, RowPlace, Running, Segment, Shape, Slot, SlotState, SoiledWords, Some, Spot, Start, Stopped, Sub, TraceRecord, UnfinishedCommands, Usbcmd, Write, Writes, Xfer, [], add-zero, address_aligned, address_of, after, and_left, and_parts, and_right, ap, append-nil, append_assoc, are_apart, arith, as_list, base_address, bit_and, bit_at, bit_at-zero, bit_at_ones, bit_not, bit_or, bits_of, group_bits, cases_Bool, cases_eq, cases_lt, changed, code, command_by, command_in, command_of, command_of_place, command_on, common_steps, cond, cond-false, cond-true, cons_option, count_by, count_of, crossed_link, crosses, crossings_of, cycle_of, declared, device_context_bytes, device_contexts, due_crossings, endpoint, endpoint_at, endpoint_index, entries_have, eq-eqb, eqb-true, exclude, false, false≢true, filter, filter-append, filter_map, find, flat_map, floor_number, fresh_endpoint, fresh_slot, get_or, get_or-append, get_or-append_seam, get_or-le-sum_by, get_or-range_with_len, get_or-remove_above, get_or-remove_below, get_or-set_other, get_or-set_same, get_or_default, get_or_from_slice_get, get_or_past, given_from, gives, gives_crossing, has, id_of, id_or_none, if◌then◌else◌, index_of, inl, input_context_bytes, inputs_of, inr, insert, is_about, is_addressing, is_command_kind, is_crossing, is_crossing_due, is_driver_kind, is_due, is_event_kind, is_halting, is_in, is_in-parts, is_in-true, is_inside, is_inside-place_at, is_marked, is_off, is_owned, is_ring, is_shape, is_slot, is_some, is_stopped, is_stopping, is_success, is_lenient, is_transfer_kind, is_trb_error, kept_at, kept_count, kept_of, le-leb, le-ltb, leb, leb-true, length, length-append, length-range_with_len, length-remove, length-replicate, length-set, length-take, link_address, link_address_is, link_aligned, list_all, list_any, list_any-IsPermutation, list_any_at, list_any_none, lt-ltb, ltb-true, map, map-append, may_stand_together, name_one_slot, named_by, named_context, named_endpoint, named_slot, names, nat_cmp, nat_eq, nat_le, nat_lt, nat_tests, ne_eqb, new_ring, no_command, none-some, not, number, one_of, option_and_then, option_copied, option_eq, option_flatten, option_map, or_parts, other_endpoint, overlap, place_at-data, place_at-link, place_below, place_count, place_of, placed_endpoint, pointer, position, position-None, position-Some, position_is, position_nowhere, position_only, positions_given-one, positions_of, put, put_pair, range_with_len, refl, register_or_zero, remove, replicate, reset_bit, ring_got, ring_with, rings_apart, rings_have, rules, run_bit, rung_endpoint, same_Some, same_slot, searched, segment_at, segment_has, segments_overlap, set, shape_facts, shape_or, slice_get, slice_get-append, slice_get-get_or, slice_get_read, slice_get_within, slice_index_or, slice_set, slot, slot_at, slot_success, start_of, starts_from, stopped_number, subst, suc, sum_by, sum_by-IsPermutation, sum_by-append, sum_by-cons, sum_by-le, sum_by-replicate, sum_by-set, sum_of, sym, table_bytes, table_has, take, take_more, taken_device, target, touches, touches-word, touches-word_of, transferred_endpoint, true, turned_off, unwrap_or, w64, with_command, zero, zero-add, ℕ, ◌%◌, ◌&&◌, ◌*◌, ◌++◌, ◌+◌, ◌-◌, ◌/◌, ◌<◌, ◌==◌, ◌^◌, ◌||◌, ◌∙◌, ◌∷◌, ◌≡◌, ◌≢◌, ◌≤◌, ◌⊎◌}
unfoldable pub use Rattle.trace_record.proofs.BaseWords.{binds_ring, bound_to, broken_off, changed_by, changes_owned, command_at, command_given, command_id, command_ring, covers, crossings_given, disabled, driver_rings, due_positions, endpoint_count, endpoint_rung, entry_of, event_at, event_ring, event_shape, given_by, given_of, held_at_ceiling, in_state, is_being_bound, learned, lease_bytes, lease_start, leased_crossings, leased_positions, moved, moved_to, next_command, nothing, older, on_ring, passed, places_sum, pointed, positions_given, register_written, ring_having, run_or_stop, runs_again, runs_once, rung, set_to, shape_of, slots, spot_on, stop_ended, stopped_at, stricter, table_range, touches_ring, transfer_read, transferred, transferred_at, unfinished, unfinished_positions, valued, with_device, with_word, writes_to_owned, written}
pub use Rattle.trace_record.proofs.DeviceSlots.AtMostOne.{all_back, all_with, all_without, alone, any_either, any_filtered, any_more, any_one, any_same, any_same_of, none_passes, not_empty, only_left}
pub use Rattle.trace_record.proofs.DeviceSlots.Fields.{endpoint_kept, endpoint_put, slot_kept, slot_put}
pub use Rattle.trace_record.proofs.DeviceSlots.Inserted.{Inserted, filter_as_before, filter_with_one, mapped_as_before, mapped_same, mapped_with_one}
pub use Rattle.trace_record.proofs.DeviceSlots.NewRecord.{alike, filled, follows_nothing, follows_reset}
pub use Rattle.trace_record.proofs.RangeWords.AnyTests.{any_none}
pub use Rattle.trace_record.proofs.RangeWords.BitTests.{cleared_here, cleared_other, either_bit, none_common, run_of_ones, some_common, tested_bit}
pub use Rattle.trace_record.proofs.RangeWords.Counts.{without}
pub use Rattle.trace_record.proofs.RingFinder.Hints.{one_hint}
pub use Rattle.trace_record.proofs.RingFinder.ListTests.{and_false, any_append, any_filter, any_flat_map, any_map, any_nowhere, false_unless, filter_nothing, from_not, or_false}
pub use Rattle.trace_record.proofs.RingFinder.RingsApart.{Apart, IsAmong, among_at, among_get, apart_back, each_among, first_apart, numbers_apart, other_number, rest_together, same_number, same_or_apart}
