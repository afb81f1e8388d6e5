-- Words and lemmas, passed on to the files above them
pub use Rattle.trace_record.proofs.BaseWords.{All, All-head, All-nil, All-tail, AreFresh, AreHints, AreNumbers, Block, Bool, Command, Contains-get_or, Dcbaap, DeviceRecord, Endpoint, EndpointState, Err, EventCounts, Finder, FollowsDevices, FollowsEvents, FollowsUnfinished, Header, HoldsAreas, IfSome, IsBinarySearchResult, IsFinder, IsFreshSo, IsGivenBy, IsHeader, IsNonDecreasingBy, IsNonDecreasingBy-insert, IsOnlyAbout, IsOwnedSo, IsPartitionPoint, IsPartitionPoint-from_clause, IsPartitionedBy-leb, IsPartitionedBy-ltb, IsPermutation, IsPermutation-append_left, IsPermutation-insert, IsPermutation-to_front, IsPermutation-trans, IsPlaced, IsPlacedSo, IsShape, IsWithBound, IsWithEndpoint, KeptCommand, Known, List, NamesEndpoint, None, Option, Read, Ring, RingGiving, RingKind, RingRecord, Row, RowPlace, Segment, Shape, Slot, SlotState, Some, Spot, Start, Stopped, UnfinishedCommands, Write, Xfer, [], and_left, and_parts, and_right, ap, append-nil, append_assoc, are_apart, arith, as_list, bit_and, bit_at, bit_at-zero, bit_not, bits_of, group_bits, cases_Bool, cases_eq, cases_lt, command_by, command_in, command_of_place, command_on, common_steps, cond, cond-false, cond-true, count_by, count_of, crossings_of, device_context_bytes, device_contexts, endpoint_at, endpoint_index, entries_have, eq-eqb, eqb-true, exclude, false, false≢true, filter, filter-append, floor_number, fresh_endpoint, fresh_slot, get_or, get_or-append, get_or-append_seam, get_or-le-sum_by, get_or-set_other, get_or-set_same, get_or_default, given_from, id_or_none, if◌then◌else◌, index_of, inl, input_context_bytes, inputs_of, inr, insert, is_about, is_addressing, is_command_kind, is_driver_kind, is_event_kind, is_in, is_in-true, is_inside, is_off, is_slot, is_some, is_lenient, kept_at, kept_count, kept_of, le-ltb, leb, length, length-append, length-replicate, length-set, list_any, list_any-IsPermutation, list_any_at, list_any_none, lt-ltb, ltb-true, map, map-append, may_stand_together, name_one_slot, named_by, named_endpoint, named_slot, names, nat_cmp, nat_eq, nat_le, nat_lt, nat_tests, ne_eqb, no_command, not, one_of, option_and_then, option_eq, option_flatten, or_parts, other_endpoint, overlap, place_of, placed_endpoint, position, position-None, position-Some, position_is, position_nowhere, positions_of, put, put_pair, range_with_len, refl, register_or_zero, remove, replicate, ring_got, ring_with, rings_apart, rings_have, rules, rung_endpoint, same_slot, segment_has, segments_overlap, set, shape_facts, shape_or, slice_get, slice_get-get_or, slice_get_read, slice_get_within, slice_index_or, slice_set, slot_success, start_of, starts_from, subst, suc, sum_by, sum_by-IsPermutation, sum_by-append, sum_by-cons, sum_of, sym, table_has, take, take_more, target, touches, transferred_endpoint, true, unwrap_or, w64, with_command, zero, zero-add, ℕ, ◌%◌, ◌&&◌, ◌*◌, ◌++◌, ◌+◌, ◌-◌, ◌/◌, ◌<◌, ◌==◌, ◌^◌, ◌||◌, ◌∙◌, ◌∷◌, ◌≡◌, ◌≢◌, ◌≤◌}
unfoldable pub use Rattle.trace_record.proofs.BaseWords.{bound_to, changed_by, command_at, command_given, command_id, command_ring, crossings_given, due_positions, endpoint_count, in_state, moved, moved_to, next_command, on_ring, pointed, positions_given, ring_having, set_to, shape_of, stop_ended, touches_ring, transfer_read, unfinished, with_device, writes_to_owned}
pub use Rattle.trace_record.proofs.DeviceSlots.Bells.{follows_beyond, follows_rung}
pub use Rattle.trace_record.proofs.DeviceSlots.HolderPlaces.{counted_now, fresh_summed, its_number, leaves_sum, passed_on, room_left, same_ring, sum_room_left, summed_now, takes_sum}
pub use Rattle.trace_record.proofs.DeviceSlots.Moves.{follows_held, follows_moved}
pub use Rattle.trace_record.proofs.DeviceSlots.TransferEvents.{follows_transferred}
pub use Rattle.trace_record.proofs.DeviceSlots.TransfersApart.{NoEndpointHas, transfer_apart}
pub use Rattle.trace_record.proofs.DeviceSlots.TurnedOff.{all_below, disabled_all, disabled_none, disabled_twice, follows_disabled}
pub use Rattle.trace_record.proofs.FreshRecords.{follows_first, fresh_push, no_event_ring, place_first}
pub use Rattle.trace_record.proofs.MiddleLaws.{IsAmong, added_all, added_sorted, alike, all_back, all_with, all_without, alone, among_at, among_get, any_append, any_below, any_either, any_filtered, any_map, any_more, any_nowhere, any_one, any_same, any_same_of, below_entries, between, cleared, controllers_are, devices_same, endpoints_same, false_unless, find_some, first_apart, flattened, follows_beside, follows_device, follows_halt, filled, follows_nothing, follows_reset, follows_placed, follows_slot_state, follows_state, follows_stop_seen, follows_type, fresh_counted, from_not, gives_no_position, high_of, id_below, in_group, in_no_segments, in_segments, last_touches, leased_is, leaves, low_of, marked_at, named_is, no_bytes, no_slot, none_among, none_behind, none_below, none_common, none_has, none_passes, none_touches, not_empty, not_found, not_missed, one_has, one_hint, one_number, one_slot, only_left, other_number, owned_by_version, removed_sorted, rest_together, run_of_ones, same_or_apart, shape_allowed, shape_there, soiled_part, some_common, states_same, takes, tested_bit, together, without}
pub use Rattle.trace_record.proofs.OneRingHas.{inside_is, no_driver_event, rings_here, rings_in_events, rings_nowhere}
pub use Rattle.trace_record.proofs.RingFinder.FoundRings.{command_found, no_command_ring, none_here, ring_here}
pub use Rattle.trace_record.proofs.RingFinder.HavingRings.{elsewhere_had, here_had, nowhere_had}
pub use Rattle.trace_record.proofs.RingFinder.Starts.{allowed_at, bytes_some, last_before, none_before, nothing_before, number_below, ring_hit, ring_miss, starts_append, starts_push}
