-- The words of std, of the crates below and of this crate's own definitions that its proofs cite, passed on by one file
pub use Rattle.commands.specs.Changes.{is_above_control, placed_by_context}
unfoldable pub use Rattle.commands.specs.Changes.{changes}
pub use Rattle.commands.specs.SideBySide.{concerns, concerns_named, exclude}
pub use Rattle.commands.specs.Command.{command_of, exclude_by_slot, name_one_slot, named_context, named_endpoint, named_slot, other_endpoint, same_slot}
pub use Rattle.commands.specs.States.{is_off, is_stopped, slot_success}
pub use Rattle.commands.specs.declared.command.Command.{Command}
pub use Rattle.commands.specs.declared.command.Command.TheVariants.{AddressDevice}
pub use Rattle.commands.specs.declared.state.EndpointState.{EndpointState}
pub use Rattle.commands.specs.declared.state.EndpointState.TheVariants.{Running, Stopped}
pub use Rattle.commands.specs.declared.state.SlotState.{SlotState}
pub use Rattle.contexts.specs.Contexts.{device_context_bytes, input_context_bytes, is_dropped}
unfoldable pub use Rattle.contexts.specs.Contexts.{added_endpoints}
pub use Rattle.contexts.specs.declared.size.ContextSize.{ContextSize}
pub use Rattle.event_ring.proofs.Words.{Data, EventCounts, EventState, Link}
pub use Rattle.event_ring.specs.EventRing.{table_bytes}
pub use Rattle.guest_memory.specs.Memory.{put_pair}
pub use Rattle.ownership_rules.proofs.Among.{IsIn}
unfoldable pub use Rattle.ownership_rules.specs.ByVersion.{writes_to_owned}
pub use Rattle.ownership_rules.specs.FirstBroken.{first_broken, first_of}
unfoldable pub use Rattle.ownership_rules.specs.Moves.{binding_in, binds, binds_ring, is_being_bound}
unfoldable pub use Rattle.ownership_rules.specs.Older.{older, stricter}
unfoldable pub use Rattle.ownership_rules.specs.OpenLeases.{covers, is_the_controllers, lease_bytes, lease_start, slots, table_range}
pub use Rattle.ownership_rules.specs.Refusal.{Test, broken_of}
unfoldable pub use Rattle.ownership_rules.specs.Writes.{changes_owned}
pub use Rattle.ownership_rules.specs.declared.refusal.Refusal.{Refusal}
pub use Rattle.ring_knowledge.proofs.GivenWords.{given_from}
pub use Rattle.ring_knowledge.proofs.Words.{FollowsRegisters, FollowsRing, Header, Known, Register, Segment, Spot, Usbcmd, address_aligned, crossed_link, crosses, crossings_of, length-set, link_address_is, link_aligned, place_at-data, place_at-link, place_below, positions_of, reset_bit, run_bit, segment_at}
unfoldable pub use Rattle.ring_knowledge.proofs.Words.{crossings_given, due_crossings, due_positions, leased_crossings, leased_positions, nothing, positions_given, register_written, run_or_stop, runs_again, runs_once, stopped_number, target, valued}
unfoldable pub use Rattle.ring_knowledge.specs.Completions.{bound_to, changed_by, completed, disabled, finished, held_at_ceiling, in_state, moved, moved_to, pointed, set_to, stop_ended, typed}
unfoldable pub use Rattle.ring_knowledge.specs.Learned.{learned}
unfoldable pub use Rattle.ring_knowledge.specs.Registers.{endpoint_rung, rung}
pub use Rattle.ring_knowledge.specs.Rings.{Crossing, Position, RingSpot}
unfoldable pub use Rattle.ring_knowledge.specs.Rings.{code_told, command_at, event_at, given_by, given_of, next_command, on_ring, spot_on, unfinished, unfinished_positions}
unfoldable pub use Rattle.ring_knowledge.specs.Transfers.{broken_off, passed, stopped_at, transfer_read, transferred, transferred_at}
unfoldable pub use Rattle.ring_knowledge.specs.Writes.{command_given, entry_of, taken_device, with_device, with_word, written}
pub use Rattle.ring_knowledge.specs.declared.ring_record.RingGiving.{RingGiving}
pub use Rattle.ring_knowledge.specs.declared.ring_record.RingRecord.{RingRecord}
pub use Rattle.segments.proofs.Declaring.{slice_get-append}
pub use Rattle.segments.proofs.InsideLemmas.{rings_apart, touches-word, touches-word_of}
pub use Rattle.segments.proofs.OneGiving.{positions_given-one}
pub use Rattle.segments.proofs.PlaceAtLemmas.{is_in-parts, is_in-true, is_inside-place_at}
pub use Rattle.segments.proofs.ReachedSpots.{number-after}
pub use Rattle.segments.proofs.Search.{position-None, position_is, position_nowhere, position_only}
pub use Rattle.segments.proofs.ShapeFacts.{shape_facts}
pub use Rattle.segments.proofs.Words.{All-cons, All-head, All-nil, All-tail, Block, Cmd, Contains-append_right, Contains-get_or, Evt, Holds, IsShape, Opens, Reaches, RingKind, RingView, Shape, Writes, Xfer, address_of, after, and_parts, cases_Bool, cases_eq, cases_lt, changed, cond-false, cond-true, cons_option, cycle_of, declared, false≢true, filter_map, flat_map, floor_number, get_or-range_with_len, get_or_default, get_or_from_slice_get, gives, gives_crossing, is_crossing, is_crossing_due, is_due, is_in, is_inside, is_shape, length-range_with_len, link_address, list_all, list_any, list_any_at, nat_tests, new_ring, none-some, number, option_map, or_parts, overlap, place_count, pointer, position-Some, put, range_with_len, same_Some, segment_has, slice_get-get_or, slice_get_within, sum_by, sum_by-cons, take_more, touches}
pub use Rattle.segments.specs.RingView.{RingChange}
pub use Rattle.segments.specs.Shape.{are_apart, segments_overlap}
pub use Rattle.std.proofs.Common.{All, Bool, Bor, Err, IfSome, List, None, Option, Some, [], add-zero, ap, append-nil, append_assoc, arith, bit_and, bit_or, cond, count_by, eq-eqb, eqb, eqb-true, false, filter, find, get_or, get_or-set_other, get_or-set_same, if◌then◌else◌, inl, inr, is_some, le-leb, le-ltb, leb, leb-true, length, length-append, length-take, lt-ltb, ltb-true, map, min, nat_eq, nat_le, nat_lt, ne_eqb, not, option_and_then, position, refl, replicate, rules, set, slice_get, slice_index_or, slice_set, subst, suc, sym, take, true, unwrap_or, zero, zero-add, ℕ, ◌%◌, ◌&&◌, ◌*◌, ◌++◌, ◌+◌, ◌-◌, ◌/◌, ◌<◌, ◌==◌, ◌^◌, ◌||◌, ◌∙◌, ◌∷◌, ◌≡◌, ◌≢◌, ◌≤◌, ◌⊎◌}
pub use Rattle.std.proofs.Math.ListN.{get_or-append}
pub use Rattle.std.proofs.Math.Path.{fun_ext}
pub use Rattle.std.proofs.Math.Seq.{get_or-append_seam}
pub use Rattle.std.proofs.lemmas.Bool.{and_left, and_right}
pub use Rattle.std.proofs.lemmas.Grind.{common_steps}
pub use Rattle.std.proofs.lemmas.List.{get_or_past, length-replicate, map-append}
pub use Rattle.std.proofs.lemmas.List.Edits.{get_or-remove_above, get_or-remove_below, length-remove}
pub use Rattle.std.proofs.lemmas.List.Elements.{All-append, Contains-append_cases, Contains-append_left, filter-append, filter_map-append}
pub use Rattle.std.proofs.lemmas.List.Folds.{list_any_none, sum_by-replicate}
pub use Rattle.std.proofs.lemmas.List.Sorted.{Contains-permutation, IsNonDecreasingBy-from_sort_by_key, IsNonDecreasingBy-insert, IsPartitionPoint-from_clause, IsPartitionedBy-leb, IsPartitionedBy-ltb, IsPermutation-append_left, IsPermutation-cons, IsPermutation-insert, IsPermutation-middle, IsPermutation-refl, IsPermutation-remove, IsPermutation-sym, IsPermutation-to_front, IsPermutation-trans, length_permutation, list_any-IsPermutation, searched, sum_by-IsPermutation}
pub use Rattle.std.proofs.lemmas.List.Sums.{get_or-le-sum_by, sum_by-append, sum_by-le, sum_by-set}
pub use Rattle.std.proofs.lemmas.Nat.{and_le_r, pow_below}
pub use Rattle.std.proofs.lemmas.Nat.Bits.{and_pow, bit_at-lt, bit_at-pow_other, bit_at-pow_same, bit_at-trailing_zeros, bit_at-zero, bit_at_and, bit_at_mask_below, bit_at_mask_inside, bit_at_not, bit_at_ones, bit_at_ones_above, bit_at_or, ones_shl, ones_shr}
pub use Rattle.std.proofs.lemmas.Option.{slice_get_read}
pub use Rattle.std.specs.Int.{bit_at, bit_not, trailing_zeros, w64}
pub use Rattle.std.specs.List.{Contains, insert, remove}
pub use Rattle.std.specs.List.Sorted.{IsBinarySearchResult, IsNonDecreasingBy, IsPartitionPoint, IsPermutation}
pub use Rattle.std.specs.Option.{option_copied, option_eq, option_flatten}
pub use Rattle.std.specs.Ordering.{nat_cmp}
pub use Rattle.trace_record.specs.DeviceSlots.Addressing.{addressing_count, is_address_device, is_addressing}
pub use Rattle.trace_record.specs.DeviceSlots.Counts.{kept_at, kept_count, no_command}
unfoldable pub use Rattle.trace_record.specs.DeviceSlots.Counts.{endpoint_count}
pub use Rattle.trace_record.specs.DeviceSlots.Devices.{FollowsDevices, IsDisabled, IsWithBound, IsWithEndpoint, IsWithSlot, endpoint_at, fresh_endpoint, fresh_slot, slot_at}
pub use Rattle.trace_record.specs.DeviceSlots.Endpoints.{named_by, placed_endpoint, ring_got, rung_endpoint, transferred_endpoint, turned_off}
pub use Rattle.trace_record.specs.DeviceSlots.Holders.{AreCounted, AreSummed, HasEndpoint, HasOneHolder, HasRoom, HasSumRoom, IsCounted, IsSummed, count_of, one_of, place_of, sum_of}
unfoldable pub use Rattle.trace_record.specs.DeviceSlots.Holders.{places_sum}
pub use Rattle.trace_record.specs.DeviceSlots.Indices.{IsOnlyAbout, NamesEndpoint, endpoint_index, index_of, is_about, is_slot, names}
pub use Rattle.trace_record.specs.DeviceSlots.Unfinished.{FollowsUnfinished, as_list, kept_of}
pub use Rattle.trace_record.specs.FollowsTrace.{FollowsEvents, FollowsPlace, FollowsTrace, device_contexts, inputs_of}
pub use Rattle.trace_record.specs.Fresh.{AreFresh, IsFreshSo}
pub use Rattle.trace_record.specs.Owned.{entries_have, is_owned, rings_have, table_has}
pub use Rattle.trace_record.specs.RangeWords.Bits.{bits_of}
pub use Rattle.trace_record.specs.RangeWords.Holding.{HoldsAreas, HoldsSoiled, group_bits, is_marked}
pub use Rattle.trace_record.specs.RangeWords.Marks.{mark_of}
pub use Rattle.trace_record.specs.RingCommands.{command_in, command_on}
pub use Rattle.trace_record.specs.RingFinder.Finding.{AreHints, AreNumbers, IsFinder, IsRingBefore, slot_of, start_of, starts_from}
pub use Rattle.trace_record.specs.RingSets.{has}
pub use Rattle.trace_record.specs.RowPlaces.{IsGivenBy, IsGivenOn, IsOwnedSo, IsPlaced, IsPlacedSo, command_by, command_of_place, with_command}
pub use Rattle.trace_record.specs.declared.device_record.holders.Holders.{Holders}
pub use Rattle.trace_record.specs.declared.device_record.kept.DeviceRecord.{DeviceRecord}
pub use Rattle.trace_record.specs.declared.device_record.kept.Endpoint.{Endpoint}
pub use Rattle.trace_record.specs.declared.device_record.kept.Slot.{Slot}
pub use Rattle.trace_record.specs.declared.device_record.unfinished.KeptCommand.{KeptCommand}
pub use Rattle.trace_record.specs.declared.device_record.unfinished.UnfinishedCommands.{UnfinishedCommands}
pub use Rattle.trace_record.specs.declared.range_words.soiled.SoiledWords.{SoiledWords}
pub use Rattle.trace_record.specs.declared.ring_finder.finder.Finder.{Finder}
pub use Rattle.trace_record.specs.declared.ring_finder.finder.Start.{Start}
pub use Rattle.trace_record.specs.declared.row_place.RowPlace.{RowPlace}
pub use Rattle.trace_record.specs.declared.trace_record.TraceRecord.{TraceRecord}
pub use Rattle.traces.specs.AllowedHeaders.{IsHeader, clash, may_stand_together}
pub use Rattle.traces.specs.Header.{id_of, id_or_none, is_command_kind, is_driver_kind, is_event_kind, is_ring, is_transfer_kind, ring_with, shape_or}
unfoldable pub use Rattle.traces.specs.Header.{command_id, command_ring, driver_rings, event_ring, event_shape, ring_having, shape_of, touches_ring}
pub use Rattle.traces.specs.Register.{base_address, register_or_zero}
pub use Rattle.traces.specs.Versions.{is_lenient}
pub use Rattle.traces.specs.declared.register.Register.TheVariants.{Dcbaap, Erstba}
pub use Rattle.traces.specs.declared.ring.Ring.{Ring}
pub use Rattle.traces.specs.declared.row.Row.{Row}
pub use Rattle.traces.specs.declared.row.Row.TheVariants.{Bell, Read, Reg, Sub, Write}
pub use Rattle.trb.specs.Block.{code, endpoint, slot}
pub use Rattle.trb.specs.CompletionCode.{is_halting, is_stopping, is_success, is_trb_error}
pub use Rattle.std.proofs.lemmas.Result.{on_err_weaker, on_ok_weaker}
