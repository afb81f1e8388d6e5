-- What the answers cite: the words, and this crate's lemmas
pub use Rattle.trace_record.proofs.BaseWords.{on_err_weaker, on_ok_weaker, AreFresh, AreHints, AreNumbers, Bool, Command, Contains-get_or, Dcbaap, Endpoint, EndpointState, Err, EventCounts, FollowsEvents, FollowsUnfinished, Header, HoldsAreas, IfSome, IsBinarySearchResult, IsFreshSo, IsGivenBy, IsNonDecreasingBy, IsOwnedSo, IsPartitionPoint, IsPartitionPoint-from_clause, IsPartitionedBy-leb, IsPartitionedBy-ltb, IsPermutation, IsPlaced, IsPlacedSo, IsWithBound, Known, List, None, Option, Ring, RingRecord, Row, RowPlace, Segment, Slot, SlotState, Some, Start, Stopped, Write, [], ap, arith, as_list, bit_and, bit_at, bit_at-zero, bit_not, bits_of, group_bits, cases_lt, command_in, count_of, device_context_bytes, device_contexts, endpoint_at, entries_have, eq-eqb, false, false≢true, fresh_endpoint, fresh_slot, get_or, get_or_default, given_from, input_context_bytes, inputs_of, insert, is_about, is_addressing, is_command_kind, is_driver_kind, is_some, is_lenient, kept_count, kept_of, leb, length, length-replicate, length-set, list_any, list_any-IsPermutation, lt-ltb, ltb-true, map, named_by, nat_cmp, nat_eq, nat_le, nat_lt, nat_tests, not, one_of, option_eq, option_flatten, overlap, place_of, placed_endpoint, position, put, refl, register_or_zero, remove, replicate, ring_got, rings_have, rules, rung_endpoint, set, slice_get_read, slice_get_within, slice_index_or, slot_success, start_of, subst, sum_of, sym, table_has, touches, transferred_endpoint, true, unwrap_or, w64, with_command, ℕ, ◌%◌, ◌&&◌, ◌*◌, ◌++◌, ◌+◌, ◌-◌, ◌/◌, ◌<◌, ◌==◌, ◌^◌, ◌||◌, ◌∙◌, ◌∷◌, ◌≡◌, ◌≤◌}
unfoldable pub use Rattle.trace_record.proofs.BaseWords.{changed_by, code_told, endpoint_count, in_state, stop_ended, typed, unfinished, with_device, writes_to_owned}
pub use Rattle.trace_record.proofs.DeviceSlots.Addressing.{addressing_is, at_most_one, few_addressing, kept_names}
pub use Rattle.trace_record.proofs.DeviceSlots.EndpointCounts.{count_first, count_has, counts_set, few_counted, one_at_most, read_count, read_kept}
pub use Rattle.trace_record.proofs.DeviceSlots.NamedCommands.{counts_named, excluded_by, excluded_by_any, follows_none, found_about, kept_about, none_shares, shared_by, some_named}
pub use Rattle.trace_record.proofs.DeviceSlots.Placing.{follows_place}
pub use Rattle.trace_record.proofs.GivenCommands.{given_by_ring, next_is, none_in_events, none_nowhere}
pub use Rattle.trace_record.proofs.PlacedRows.{command_drives, command_here, command_is, given_on, none_by, none_of_place, nothing_of_events, nothing_there, placed_other}
pub use Rattle.trace_record.proofs.RangeWords.WholeGroups.{bits_set, bits_whole, either_way, mark_here, mark_more, nothing_in, own_bits, same_bits, soiled_one, soiled_three, still_marked, whole_bits, whole_marked, whole_more}
pub use Rattle.trace_record.proofs.RingFinder.CommandRings.{IsCommandNumber, command_number, has_commands, read_at}
pub use Rattle.trace_record.proofs.RingFinder.MoreRings.{all_starts_more, command_more, event_more, inserted_all, inserted_sorted, numbers_more, one_more, position_still}
pub use Rattle.trace_record.proofs.RingFinder.TouchedSegments.{last_before_end, none_before_end}
pub use Rattle.trace_record.proofs.UpperLaws.{added_all, added_sorted, alike, all_below, among_at, any_below, below_entries, between, cleared, controllers_are, counted_now, disabled_all, disabled_none, disabled_twice, elsewhere_had, flattened, follows_beside, follows_beyond, follows_device, follows_disabled, follows_first, follows_held, filled, follows_nothing, follows_reset, follows_rung, follows_slot_state, follows_state, follows_stop_seen, follows_transferred, follows_type, fresh_counted, fresh_push, fresh_summed, here_had, high_of, in_group, in_no_segments, in_segments, inside_is, its_number, last_before, last_touches, leased_is, leaves, leaves_sum, low_of, marked_at, named_is, no_bytes, no_command_ring, no_event_ring, no_slot, none_among, none_before, none_behind, none_below, none_common, none_has, none_here, none_touches, not_missed, nothing_before, nowhere_had, number_below, one_has, one_hint, one_number, one_slot, owned_by_version, passed_on, place_first, removed_sorted, ring_here, ring_hit, ring_miss, rings_here, rings_in_events, rings_nowhere, room_left, run_of_ones, same_ring, soiled_part, some_common, starts_push, sum_room_left, summed_now, takes, takes_sum, tested_bit, without}
