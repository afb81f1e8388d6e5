-- Words and lemmas, passed on to the files above them
pub use Rattle.trace_record.proofs.BaseWords.{All, All-head, All-nil, All-tail, AreCounted, AreFresh, AreHints, AreNumbers, AreSummed, Block, Bool, Command, Contains, Contains-append_cases, Contains-append_left, Contains-append_right, Contains-get_or, Contains-permutation, Crossing, Dcbaap, DeviceRecord, Endpoint, EndpointState, Err, EventCounts, EventState, Finder, FollowsDevices, FollowsEvents, FollowsPlace, FollowsRegisters, FollowsRing, FollowsTrace, FollowsUnfinished, HasOneHolder, HasRoom, HasSumRoom, Header, Holders, Holds, HoldsAreas, HoldsSoiled, IfSome, IsBinarySearchResult, IsDisabled, IsFinder, IsFreshSo, IsGivenBy, IsHeader, IsNonDecreasingBy, IsNonDecreasingBy-insert, IsOnlyAbout, IsOwnedSo, IsPartitionPoint, IsPartitionPoint-from_clause, IsPartitionedBy-leb, IsPartitionedBy-ltb, IsPermutation, IsPermutation-append_left, IsPermutation-insert, IsPermutation-sym, IsPermutation-to_front, IsPermutation-trans, IsPlaced, IsPlacedSo, IsRingBefore, IsShape, IsSummed, IsWithBound, IsWithEndpoint, KeptCommand, Known, List, NamesEndpoint, None, Opens, Option, Position, Reaches, Read, Reg, Register, Ring, RingGiving, RingKind, RingRecord, RingSpot, Row, RowPlace, Running, Segment, Shape, Slot, SlotState, SoiledWords, Some, Spot, Start, Stopped, Sub, TraceRecord, UnfinishedCommands, Write, Xfer, [], add-zero, address_of, after, and_left, and_parts, and_right, ap, append-nil, append_assoc, are_apart, arith, as_list, bit_and, bit_at, bit_at-zero, bit_not, bits_of, group_bits, cases_Bool, cases_eq, cases_lt, code, command_by, command_in, command_of_place, command_on, common_steps, cond, cond-false, cond-true, count_by, count_of, crossings_of, device_context_bytes, device_contexts, endpoint, endpoint_at, endpoint_index, entries_have, eq-eqb, eqb-true, exclude, false, false≢true, filter, filter-append, find, floor_number, fresh_endpoint, fresh_slot, get_or, get_or-append, get_or-append_seam, get_or-le-sum_by, get_or-set_other, get_or-set_same, get_or_default, get_or_from_slice_get, given_from, has, id_of, id_or_none, if◌then◌else◌, index_of, inl, input_context_bytes, inputs_of, inr, insert, is_about, is_addressing, is_command_kind, is_driver_kind, is_event_kind, is_halting, is_in, is_in-parts, is_in-true, is_inside, is_off, is_owned, is_ring, is_slot, is_some, is_stopped, is_stopping, is_success, is_lenient, is_transfer_kind, is_trb_error, kept_at, kept_count, kept_of, le-leb, le-ltb, leb, leb-true, length, length-append, length-replicate, length-set, length-take, link_address, list_any, list_any-IsPermutation, list_any_at, list_any_none, lt-ltb, ltb-true, map, map-append, may_stand_together, name_one_slot, named_by, named_endpoint, named_slot, names, nat_cmp, nat_eq, nat_le, nat_lt, nat_tests, ne_eqb, new_ring, no_command, none-some, not, number, one_of, option_and_then, option_eq, option_flatten, option_map, or_parts, other_endpoint, overlap, place_of, placed_endpoint, pointer, position, position-None, position-Some, position_is, position_nowhere, positions_of, put, put_pair, range_with_len, refl, register_or_zero, remove, replicate, ring_got, ring_with, rings_apart, rings_have, rules, rung_endpoint, same_Some, same_slot, segment_at, segment_has, segments_overlap, set, shape_facts, shape_or, slice_get, slice_get-get_or, slice_get_read, slice_get_within, slice_index_or, slice_set, slot, slot_success, start_of, starts_from, stopped_number, subst, suc, sum_by, sum_by-IsPermutation, sum_by-append, sum_by-cons, sum_by-set, sum_of, sym, table_has, take, take_more, taken_device, target, touches, touches-word, touches-word_of, transferred_endpoint, true, turned_off, unwrap_or, w64, with_command, zero, zero-add, ℕ, ◌%◌, ◌&&◌, ◌*◌, ◌++◌, ◌+◌, ◌-◌, ◌/◌, ◌<◌, ◌==◌, ◌^◌, ◌||◌, ◌∙◌, ◌∷◌, ◌≡◌, ◌≢◌, ◌≤◌, ◌⊎◌}
unfoldable pub use Rattle.trace_record.proofs.BaseWords.{binds_ring, bound_to, broken_off, changed_by, command_at, command_given, command_id, command_ring, crossings_given, disabled, driver_rings, due_positions, endpoint_count, endpoint_rung, event_at, event_ring, event_shape, given_by, given_of, held_at_ceiling, in_state, is_being_bound, learned, leased_crossings, leased_positions, moved, moved_to, next_command, nothing, on_ring, passed, places_sum, pointed, positions_given, register_written, ring_having, run_or_stop, runs_again, runs_once, rung, set_to, shape_of, slots, spot_on, stop_ended, stopped_at, touches_ring, transfer_read, transferred, transferred_at, unfinished, unfinished_positions, valued, with_device, with_word, writes_to_owned, written}
pub use Rattle.trace_record.proofs.DeviceSlots.HolderCounts.{fresh_counted, is_same, leaves, named, none_has, one_has, takes}
pub use Rattle.trace_record.proofs.DeviceSlots.Steps.{bound_same, devices_same, endpoints_same, follows_beside, follows_device, follows_halt, follows_placed, follows_slot_state, follows_state, follows_still, follows_stop_seen, follows_type, states_same}
pub use Rattle.trace_record.proofs.DeviceSlots.UnfinishedSame.{ring_elsewhere}
pub use Rattle.trace_record.proofs.LowerLaws.{Apart, IsAmong, alike, all_back, all_with, all_without, alone, among_at, among_get, any_append, any_either, any_filtered, any_map, any_more, any_nowhere, any_one, any_same, any_same_of, each_among, false_unless, filter_nothing, first_apart, filled, follows_nothing, follows_reset, from_not, none_common, none_passes, not_empty, numbers_apart, one_hint, only_left, or_false, other_number, rest_together, run_of_ones, same_or_apart, some_common, tested_bit, without}
pub use Rattle.trace_record.proofs.OpenAreas.{controllers_are, in_no_segments, in_segments, leased_is, owned_by_version}
pub use Rattle.trace_record.proofs.OpenEntries.{below_entries, no_slot, one_slot}
pub use Rattle.trace_record.proofs.RangeWords.AreaLists.{added_all, added_sorted, last_touches, none_among, none_behind, none_touches, not_missed, removed_sorted}
pub use Rattle.trace_record.proofs.RangeWords.MarkedWords.{between, cleared, high_of, in_group, low_of, marked_at, soiled_part}
pub use Rattle.trace_record.proofs.RangeWords.WordTests.{any_below, none_below}
pub use Rattle.trace_record.proofs.RingFinder.HeaderRings.{all_from_one, event_found, event_here, find_only, find_some, id_below, no_driver, not_found, nothing_from, one_driver, shape_allowed, shape_there, together}
pub use Rattle.trace_record.proofs.RingFinder.Numbers.{flattened, named_is, no_position, one_number, one_position, some_ring}
pub use Rattle.trace_record.proofs.TableWords.{no_bytes}
pub use Rattle.trace_record.proofs.WordsInside.{gives_no_crossing, gives_no_position, not_owned}
