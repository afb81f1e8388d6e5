-- The words and the lemmas that most files here cite, passed on by one file
pub use Rattle.trace_record.proofs.BaseWords.{AreFresh, AreHints, AreNumbers, Block, Bool, Cmd, Command, Contains-get_or, Crossing, Data, Dcbaap, Endpoint, EndpointState, Err, Erstba, EventCounts, EventState, Evt, FollowsDevices, FollowsEvents, FollowsPlace, FollowsRegisters, FollowsRing, FollowsTrace, FollowsUnfinished, Header, HoldsAreas, HoldsSoiled, IfSome, IsBinarySearchResult, IsDisabled, IsFreshSo, IsGivenBy, IsGivenOn, IsHeader, IsIn, IsNonDecreasingBy, IsNonDecreasingBy-from_sort_by_key, IsOwnedSo, IsPartitionPoint, IsPartitionPoint-from_clause, IsPartitionedBy-leb, IsPartitionedBy-ltb, IsPermutation, IsPlaced, IsShape, IsWithBound, Known, Link, List, None, Option, Position, Read, Refusal, Ring, RingGiving, RingKind, RingRecord, RingView, Row, RowPlace, Segment, Shape, Slot, SlotState, SoiledWords, Some, Start, Stopped, Test, TraceRecord, Write, Writes, Xfer, [], address_aligned, address_of, and_left, and_right, ap, append-nil, arith, as_list, base_address, bit_and, bit_at, bit_at-zero, bit_not, bits_of, group_bits, broken_of, cases_Bool, cases_eq, cases_lt, changed, command_in, command_on, common_steps, cons_option, count_of, crossed_link, crosses, crossings_of, cycle_of, device_context_bytes, device_contexts, endpoint_at, entries_have, eq-eqb, eqb-true, false, false≢true, filter, filter_map, first_broken, first_of, flat_map, floor_number, fresh_endpoint, fresh_slot, fun_ext, get_or, get_or_default, given_from, gives, gives_crossing, has, if◌then◌else◌, inl, input_context_bytes, inputs_of, inr, insert, is_about, is_addressing, is_command_kind, is_crossing, is_crossing_due, is_driver_kind, is_due, is_event_kind, is_in, is_inside, is_inside-place_at, is_marked, is_off, is_owned, is_some, is_lenient, kept_count, kept_of, leb, length, length-append, length-replicate, length-set, length_permutation, link_address, link_address_is, link_aligned, list_any, list_any-IsPermutation, lt-ltb, ltb-true, map, mark_of, named_by, named_context, nat_cmp, nat_eq, nat_le, nat_lt, nat_tests, new_ring, not, one_of, option_eq, option_flatten, overlap, place_at-data, place_at-link, place_below, place_count, place_of, placed_endpoint, position, positions_of, put, range_with_len, refl, register_or_zero, remove, replicate, ring_got, rings_have, rules, rung_endpoint, set, shape_or, slice_get, slice_get_read, slice_get_within, slice_index_or, slot_success, start_of, starts_from, subst, suc, sum_of, sym, table_bytes, table_has, take, touches, touches-word, transferred_endpoint, true, unwrap_or, w64, zero, ℕ, ◌%◌, ◌&&◌, ◌*◌, ◌++◌, ◌+◌, ◌-◌, ◌/◌, ◌<◌, ◌==◌, ◌^◌, ◌||◌, ◌∙◌, ◌∷◌, ◌≡◌, ◌≢◌, ◌≤◌, ◌⊎◌}
unfoldable pub use Rattle.trace_record.proofs.BaseWords.{binding_in, binds, binds_ring, changed_by, changes_owned, command_at, command_given, command_id, command_ring, covers, crossings_given, driver_rings, due_crossings, due_positions, endpoint_count, entry_of, event_ring, event_shape, given_by, given_of, in_state, is_being_bound, is_the_controllers, lease_bytes, lease_start, leased_crossings, leased_positions, next_command, nothing, older, positions_given, shape_of, slots, stop_ended, stricter, table_range, unfinished, unfinished_positions, with_device, writes_to_owned}
pub use Rattle.trace_record.proofs.DeviceSlots.Addressing.{addressing_is, at_most_one, few_addressing, kept_names}
pub use Rattle.trace_record.proofs.DeviceSlots.EndpointCounts.{count_first, count_has, counts_set, few_counted, one_at_most, read_count, read_kept}
pub use Rattle.trace_record.proofs.DeviceSlots.HolderCounts.{fresh_counted, leaves, none_has, one_has, takes}
pub use Rattle.trace_record.proofs.DeviceSlots.HolderPlaces.{counted_now, fresh_summed, its_number, leaves_sum, passed_on, room_left, same_ring, sum_room_left, summed_now, takes_sum}
pub use Rattle.trace_record.proofs.DeviceSlots.NamedCommands.{counts_named, endpoint_of, excluded_by, excluded_by_any, follows_finished, follows_given, follows_none, found_about, kept_about, none_shares, shared_by, some_named}
pub use Rattle.trace_record.proofs.DeviceSlots.NewRecord.{alike, filled, follows_nothing, follows_reset}
pub use Rattle.trace_record.proofs.DeviceSlots.Steps.{follows_beside, follows_device, follows_slot_state, follows_state, follows_stop_seen}
pub use Rattle.trace_record.proofs.DeviceSlots.TurnedOff.{all_below, disabled_all, disabled_none, disabled_twice, follows_disabled}
pub use Rattle.trace_record.proofs.RangeWords.AreaLists.{added_all, added_sorted, last_touches, none_among, none_behind, none_touches, not_missed, removed_sorted}
pub use Rattle.trace_record.proofs.RangeWords.BitTests.{none_common, run_of_ones, some_common, tested_bit}
pub use Rattle.trace_record.proofs.RangeWords.MarkedWords.{between, cleared, high_of, in_group, low_of, marked_at, soiled_part}
pub use Rattle.trace_record.proofs.RingFinder.CommandRings.{IsCommandNumber, command_id_is, command_number, commands_among, has_commands, no_ring, read_at}
pub use Rattle.trace_record.proofs.RingFinder.FoundRings.{command_found, no_command_ring, none_here, ring_here}
pub use Rattle.trace_record.proofs.RingFinder.HeaderRings.{all_from_one, event_found, event_here, find_some, no_driver, not_found, nothing_from, one_driver, shape_allowed, shape_there, together}
pub use Rattle.trace_record.proofs.RingFinder.ListTests.{and_false, any_append, any_filter, any_flat_map, any_map, any_nowhere, false_unless, filter_nothing, or_false}
pub use Rattle.trace_record.proofs.RingFinder.MoreRings.{all_starts_more, inserted_all, inserted_sorted, numbers_more, position_still}
pub use Rattle.trace_record.proofs.RingFinder.Numbers.{flattened, named_is, one_number}
pub use Rattle.trace_record.proofs.RingFinder.RingsApart.{Apart, IsAmong, among_at, each_among, same_or_apart}
pub use Rattle.trace_record.proofs.RingFinder.Starts.{last_before, nothing_before, nothing_on_page, number_below, ring_covering, ring_hit, ring_miss, starts_push}
