-- The words of std, of the crates below and of this crate's own definitions that its proofs cite, passed on by one file
pub use Rattle.commands.specs.Changes.{typed_by_context}
pub use Rattle.commands.specs.declared.state.EndpointState.TheVariants.{Error}
pub use Rattle.contexts.specs.Contexts.{context_cycle, context_pointer}
pub use Rattle.contexts.specs.declared.size.ContextSize.TheVariants.{Bytes32}
pub use Rattle.event_ring.specs.EventRing.{table_bytes}
pub use Rattle.guest_memory.specs.Memory.{long_at}
pub use Rattle.leases.specs.CertificateLogs.Agreement.{test_of}
unfoldable pub use Rattle.leases.specs.CertificateLogs.Agreement.{agree, agrees, begins_as, has_words_of, is_endless}
pub use Rattle.leases.specs.CertificateLogs.Following.{Begins, Ends, FollowsList, KnowsOpen}
pub use Rattle.leases.specs.CertificateLogs.Logs.{FollowsCertificate}
pub use Rattle.leases.specs.CertificateLogs.OpenPlaces.{BlockPlace, FindsPlaces, IsCrossed, IsOnly, IsOnlyAt, LinkPlace, RingPlace, has_place, is_open_of, number_at}
pub use Rattle.leases.specs.LeaseBooks.Books.{AllUnended, HoldsLents, IsFound}
unfoldable pub use Rattle.leases.specs.LeaseBooks.Coming.{come_to}
unfoldable pub use Rattle.leases.specs.LeaseBooks.Endings.{ended_at, is_open_as}
pub use Rattle.leases.specs.LeaseBooks.InStep.{AreOpen, FreeWasGiven, IsInStep}
pub use Rattle.leases.specs.LeaseBooks.IndexTables.{index_at, index_in, index_of}
pub use Rattle.leases.specs.LeaseBooks.Lents.{Lent, is_passed, newly_open, open_now, share_a_place}
unfoldable pub use Rattle.leases.specs.LeaseBooks.Lents.{begun_at, ended_where, grown, in_turn, is_place_free, is_unended, lease_of, lents, passed_on, precedes, with_begun, with_leased}
pub use Rattle.leases.specs.LeaseBooks.LettingGo.{devices_without, let_go, slot_disabled, slot_left, slot_ranges}
unfoldable pub use Rattle.leases.specs.LeaseBooks.Opening.{segment_lease}
pub use Rattle.leases.specs.LeaseBooks.OtherShapes.{AreShapedAlike, IsShapedAlike, both_told}
pub use Rattle.leases.specs.LeaseBooks.Ranges.{FindsRanges, IsRangeFound, IsUseFound, StandFrom, StandsAt, command_place, segments_in_turn, share_a_use, shares_use}
unfoldable pub use Rattle.leases.specs.LeaseBooks.Ranges.{is_lent, is_use_free}
pub use Rattle.leases.specs.LeaseRows.CleanRows.{HoldsAll, IsNextRow, IsOtherRow}
pub use Rattle.leases.specs.LeaseRows.LeftBehind.{AreLent, EntriesFit, FloorsMove, IsMovedTo, IsOtherRing, MovesOn, TablesFit, is_behind, is_input_context, is_moved_past, is_of_slot, moved_by, moved_on, moved_ring, moved_when, slot_let_go}
pub use Rattle.leases.specs.LeaseRows.Taking.{EntryFits, SlotIsFree, command_taken, slot_taken}
pub use Rattle.leases.specs.RingLeases.Moving.{MovesRing}
pub use Rattle.leases.specs.RingLeases.RingLents.{is_freed, is_of_ring, is_withdrawn}
pub use Rattle.leases.specs.declared.book.indexes.IndexTables.{IndexTables}
pub use Rattle.leases.specs.declared.book.indexes.Indexes.{Indexes}
pub use Rattle.leases.specs.declared.book.lease_book.LeaseBook.{LeaseBook}
pub use Rattle.leases.specs.declared.book.ranges.RangeIndexes.{RangeIndexes}
pub use Rattle.leases.specs.declared.log.certificate_log.CertificateLog.{CertificateLog}
pub use Rattle.leases.specs.declared.log.followed.FollowedList.{FollowedList}
pub use Rattle.ownership_rules.proofs.Among.{among_is, both_ways, in_among, leased_is, leased_itself}
unfoldable pub use Rattle.ownership_rules.specs.Leases.{as_lease, begun, comes_before, end_from, in_order, leases, leases_from, with_ends, with_lease, without_end}
unfoldable pub use Rattle.ownership_rules.specs.LenientRules.{lenient}
unfoldable pub use Rattle.ownership_rules.specs.Moves.{binding_in, binds, has_repeats, ring_bound}
unfoldable pub use Rattle.ownership_rules.specs.OnLiterals.{rules_on_literals}
pub use Rattle.ownership_rules.specs.OpenLeases.{Block, DeviceContext, EventSegment, InputContext, Leased, Link, Range, SegmentTable, SlotEntry, Use, same_leased}
unfoldable pub use Rattle.ownership_rules.specs.OpenLeases.{is_among}
unfoldable pub use Rattle.ownership_rules.specs.Registers.{is_bad_register, is_written}
unfoldable pub use Rattle.ownership_rules.specs.Rings.{is_bad_free, is_bad_ring}
pub use Rattle.ring_knowledge.proofs.DueNumbers.{link_of-crossed, same_due, same_due_crossing}
pub use Rattle.ring_knowledge.proofs.Noted.{noted_past}
pub use Rattle.ring_knowledge.proofs.Words.{Declares, FollowsRing, IsShape, Opens, Register, Segment, and_from, and_parts, crossed_link, crossing_positive, crossings_of, is_crossing_due, length-map, link_crossed, nat_tests, new_ring, or_left, positions_of, reset_bit, with_register}
unfoldable pub use Rattle.ring_knowledge.proofs.Words.{register_written, valued}
unfoldable pub use Rattle.ring_knowledge.specs.Completions.{typed}
pub use Rattle.ring_knowledge.specs.Histories.{header_now, known_after, known_now, restored}
unfoldable pub use Rattle.ring_knowledge.specs.Histories.{forgotten, gone, restored_on, ring_moved, ring_restored}
unfoldable pub use Rattle.ring_knowledge.specs.Learned.{event_read}
pub use Rattle.ring_knowledge.specs.LearnedOrReset.{learned_or_reset}
unfoldable pub use Rattle.ring_knowledge.specs.Resets.{given_up, held_at_given, reset, resets}
pub use Rattle.ring_knowledge.specs.Rings.{Crossing, Given, Position}
unfoldable pub use Rattle.ring_knowledge.specs.Rings.{code_told, spot_on}
unfoldable pub use Rattle.ring_knowledge.specs.Transfers.{broken_off, passed, stopped_at, transfer_read, transferred, transferred_at}
unfoldable pub use Rattle.ring_knowledge.specs.Writes.{device_named, no_device}
pub use Rattle.ring_knowledge.specs.declared.lease.Lease.{Lease}
pub use Rattle.ring_knowledge.specs.declared.ring_record.RingGiving.{RingGiving}
pub use Rattle.safety.proofs.DevicesKeep.AreaFacts.{area_parts}
pub use Rattle.safety.proofs.Rows.CleanRows.{EventFacts, event_facts, register_facts}
pub use Rattle.safety.proofs.RingsKeep.CommandRing.{due_has_ring}
pub use Rattle.safety.proofs.DevicesKeep.DeviceFrames.{entry_same}
pub use Rattle.safety.proofs.DevicesKeep.DevicesWritten.{and_then_parts, contains_first, written_devices}
pub use Rattle.safety.proofs.DriverRings.{rings_of}
pub use Rattle.safety.proofs.RingsKeep.DriverRows.{ring_elsewhere}
pub use Rattle.safety.proofs.StatesKeep.EndpointPut.{at_number}
pub use Rattle.safety.proofs.Behind.EventBehind.{event_behind}
pub use Rattle.safety.proofs.Finishes.FinishDequeue.{may_move}
pub use Rattle.safety.proofs.Behind.FloorsGrow.{floors_grow, may_change}
pub use Rattle.safety.proofs.ResetRuns.GivenUp.{floor_behind}
pub use Rattle.safety.proofs.HeaderRings.Headers.{found_in, ring_shape, transfer_driver, transfer_not_command}
pub use Rattle.safety.proofs.RunKeeps.KeptClean.{taking}
pub use Rattle.safety.proofs.RunKeeps.KeptRegisters.{registered}
pub use Rattle.safety.proofs.RingsKeep.KeptRings.{completion_facts, next_at_floor, still_of}
pub use Rattle.safety.proofs.Targets.Placings.{Ready, ReadyAt, address_ready, all_ready, dropped, ready_next, ring_at}
pub use Rattle.safety.proofs.RingChanges.ListedRings.{none_found}
pub use Rattle.safety.proofs.RingChanges.NewRings.{found_before, found_new}
pub use Rattle.safety.proofs.RingChanges.OtherRings.{OtherRings}
pub use Rattle.safety.proofs.RingChanges.RingRuns.{bad_same, f_keeps, fresh}
pub use Rattle.safety.proofs.RingChanges.Segments.{segment_some}
pub use Rattle.safety.proofs.RingChanges.Squares.{cleared, cleared_apart}
pub use Rattle.safety.proofs.HeaderRings.RingIds.{having_transfer, transfer_driver as transfer_is_driver}
pub use Rattle.safety.proofs.Rows.RowFrames.{bell_leaves, declaration_leaves, register_leaves, status_leaves, write_leaves}
pub use Rattle.safety.proofs.NoHarm.SafeContext.{command_is_ring, named_if_taken}
pub use Rattle.safety.proofs.Rows.SameDriver.{SameDriver, event_same, view_after}
pub use Rattle.safety.proofs.Targets.StandingTargets.{target_here, target_placed}
pub use Rattle.safety.proofs.RingsKeep.TestsPassed.{any_of_map, each_fails, tests_fail}
pub use Rattle.safety.proofs.Words.{AddressDevice, All-head, All-tail, Bell, BlockKind, Change, Cmd, Command, CommandCompletion, ConfigureEndpoint, DeviceLeft, DisableSlot, Disables, DriverKeeps, EndpointState, Erstba, Erstsz, Evt, Header, Holds, IsDriverRing, IsHeader, IsIn, Known, MayChangeAll, Places, Reaches, Read, Reg, RegRead, Ring, RingChange, RingKind, RingSpot, RingView, Row, SetTrDequeue, Shape, SlotGoesOn, Spot, Stopped, Sub, TransferEvent, Usbcmd, Write, Writes, Xfer, address_inside, address_of, after, any_of, cases_Bool, changed, code, command_of, cond-false, cond-true, cond_both, device_context_bytes, drop_all, false_from_ne_true, false≢true, flat_map, floor_number, from_filter, fun_ext, given_count, gives, gives_crossing, gives_crossing_is, gives_is, id_of, id_or_none, in_filter, input_context_bytes, is_bad_segment, is_command_completion, is_command_kind, is_crossing, is_done, is_driver_kind, is_dropped, is_in_run, is_inside, is_off, is_restored, is_ring, is_stopping, is_success, is_transfer_event, is_transfer_kind, is_value, kind, link_address, link_address_inside, list_any, list_any-append, named_context, none-some, number, or_parts, place_count, placed_by_context, position_given_is, put, range_with_len, register_or_zero, ring_with, same_Some, shape_or, slice_get_within, slot, target_ahead}
unfoldable pub use Rattle.safety.proofs.Words.{added_endpoints, bound_to, ceiling, changed_by, changed_by_all, changes, command_at, command_given, command_id, command_ring, completed, context_ranges, crossings_given, device_ranges, disabled, driver_rings, due_positions, entry_of, entry_ranges, event_at, event_size, finished, given_by, given_of, goes_badly, held_at_ceiling, in_state, is_bad_kind, is_unwritten, learned, lenient_tests, moved, moved_to, next_command, nothing, on_ring, open_leases, open_on, open_ranges, pointed, positions_given, range_of_command, range_of_context, range_of_device, range_of_entry, ring_having, segment_ranges, set_to, shape_of, slots, stop_ended, succeeded, table_range, taken_device, target, unfinished_positions, with_device, with_word, written}
pub use Rattle.safety.proofs.CommandsKeep.WriteBeside.{rules_of}
pub use Rattle.safety.proofs.Rows.WrittenKnown.{after_write, taken, written_device, written_device_none}
pub use Rattle.safety.specs.Keeps.{IsTransferRing}
pub use Rattle.safety.specs.Placings.{StillHolds}
pub use Rattle.segments.proofs.Giving.{GivesCrossing, due_is}
pub use Rattle.segments.proofs.Named.{ceiling_within, named_ahead}
pub use Rattle.segments.proofs.OneGiving.{gives_one}
pub use Rattle.segments.proofs.ReachedSpots.{number-after}
pub use Rattle.segments.proofs.Reaching.{floor_given, given_count_declared}
pub use Rattle.segments.proofs.Search.{cases_option}
pub use Rattle.segments.proofs.SpotOrder.{data_not_link}
pub use Rattle.segments.proofs.Words.{IsRestored, Restores, RingKeeps, Withdraws, is_handed_over, is_in, not-true, option_map, or_cases, pointer, position_or_len, take_more, touches}
unfoldable pub use Rattle.segments.proofs.Words.{due_crossings, leased_crossings, leased_positions, length_from, link_of, named, unrestored}
pub use Rattle.segments.specs.Places.{overlap, place_of}
pub use Rattle.segments.specs.Shape.{are_apart, segments_overlap}
pub use Rattle.std.proofs.Common.{All, Bool, Err, List, None, Ok, OnOk, Option, Result, Some, [], ap, append-nil, append_assoc, arith, cond, drop, drop-cons, eq-eqb, eqb-true, false, filter, get_or, if◌then◌else◌, inl, inr, insert, is_some, le-leb, leb-true, length, lt-ltb, ltb-false, ltb-true, map, max, nat_le, nat_lt, ne_eqb, not, option_and_then, refl, reverse, rules, slice_get, slice_set, subst, suc, sym, take, take_all, true, unwrap_or, vec_len, zero, ℕ, ◌%◌, ◌&&◌, ◌*◌, ◌++◌, ◌+◌, ◌-◌, ◌<◌, ◌==◌, ◌^◌, ◌||◌, ◌↔◌, ◌∙◌, ◌∷◌, ◌≡◌, ◌≢◌, ◌≤◌, ◌⊎◌}
pub use Rattle.std.proofs.lemmas.Bool.{eqb-false, le-ltb, or_from}
pub use Rattle.std.proofs.lemmas.List.{get_or-map}
pub use Rattle.std.proofs.lemmas.List.Elements.{filter-append}
pub use Rattle.std.proofs.lemmas.Option.{slice_get-get_or, slice_get_cases}
pub use Rattle.std.specs.List.{position}
pub use Rattle.std.specs.Option.{option_copied}
pub use Rattle.std.specs.Result.{IfOk, result_ok}
pub use Rattle.trace_record.proofs.OneRingHas.{inside_is, no_driver_event}
pub use Rattle.trace_record.proofs.RingFinder.CommandRings.{command_id_is, commands_among, driven, driven as driven_kind, no_ring}
pub use Rattle.trace_record.proofs.RingFinder.FoundRings.{command_found, no_command_ring, ring_here}
pub use Rattle.trace_record.proofs.RingFinder.HeaderRings.{all_from_one, event_here, not_found, nothing_from, ring_found, shape_allowed}
pub use Rattle.trace_record.proofs.RingFinder.ListTests.{and_false, any_append, false_unless, or_false}
pub use Rattle.trace_record.proofs.RingFinder.RingsApart.{each_among, same_number, same_or_apart}
pub use Rattle.trace_record.proofs.Words.{Apart, FollowsTrace, IsAmong, RingRecord, among_at, find_some, none_here, shape_there, slice_get_read, together}
pub use Rattle.trace_record.proofs.WordsInside.{gives_no_crossing, gives_no_position}
pub use Rattle.trace_record.specs.Premises.{EndpointRings}
pub use Rattle.trace_record.specs.RowPlaces.{IsGivenBy, IsPlaced, IsPlacedSo}
pub use Rattle.trace_record.specs.declared.row_place.RowPlace.{RowPlace}
pub use Rattle.trace_record.specs.declared.trace_record.TraceRecord.{TraceRecord}
pub use Rattle.traces.specs.Header.{is_event_kind, no_id}
unfoldable pub use Rattle.traces.specs.Header.{event_ring, event_shape}
pub use Rattle.traces.specs.LivingRings.{header_after}
unfoldable pub use Rattle.traces.specs.LivingRings.{with_ring, without_ring}
pub use Rattle.traces.specs.Register.{base_address}
pub use Rattle.traces.specs.Rows.{IsComing, is_ring_row}
pub use Rattle.traces.specs.Versions.{has_isoch}
pub use Rattle.traces.specs.declared.register.Register.TheVariants.{Dcbaap}
pub use Rattle.traces.specs.declared.row.Row.TheVariants.{Free as FreeRow, Nop as NopRow, Ring as RingRow}
pub use Rattle.traces.specs.declared.version.Version.TheVariants.{Three}
pub use Rattle.trb.specs.Block.{endpoint}
pub use Rattle.trb.specs.CompletionCode.{counted_code, is_halting, is_of_service, is_trb_error}
pub use Rattle.trb.specs.declared.block.Block.{Block as Trb}
pub use Rattle.trb.specs.declared.fault.Fault.{Fault}
pub use mathlib.Core.List.{reverse_aux}
