-- The words of std, of the crates below and of this crate's own definitions that its proofs cite, passed on by one file
pub use Rattle.contexts.proofs.BitsOfWords.{above_control, flag_is, unchanged}
pub use Rattle.driver_rows.specs.ContextRules.Contents.{IsAligned, has_bad_content_by, is_left_out_by}
unfoldable pub use Rattle.driver_rows.specs.ContextRules.Contents.{adds_bad, adds_left_out, is_bad_added_in, is_left_out_in, lacks_control}
pub use Rattle.driver_rows.specs.ContextRules.Entries.{touches_event_segment, touches_segment}
unfoldable pub use Rattle.driver_rows.specs.ContextRules.Entries.{touches_entry}
pub use Rattle.driver_rows.specs.DeclarationRows.OneRing.{IsDeclared, room_tests}
pub use Rattle.driver_rows.specs.DoorbellRows.Numbers.{number_of, number_rung}
pub use Rattle.driver_rows.specs.MemoryWrites.Allowed.{IsAllowed}
pub use Rattle.driver_rows.specs.MemoryWrites.WriteTests.{GivesOnPosition, crossing_tests, given_tests, place_tests, position_tests}
pub use Rattle.driver_rows.specs.RegisterWrites.EventReads.{IsMoved, Wrong}
pub use Rattle.driver_rows.specs.RingBindings.Bindings.{are_bad, as_binding, binding_at, binding_of, is_bad, is_in_set, is_kept_ring, is_misplaced, is_to, was_bound}
unfoldable pub use Rattle.driver_rows.specs.RingBindings.Bindings.{bindings_from}
pub use Rattle.driver_rows.specs.RingBindings.Contexts.{HasBound, HoldsContexts, dequeue_at, dequeue_in}
pub use Rattle.driver_rows.specs.RingBindings.Dropped.{HoldsDropped, is_left, leaves}
pub use Rattle.driver_rows.specs.RingBindings.Slots.{is_below, names_below}
pub use Rattle.driver_rows.specs.RingRows.GivenCommands.{GivesCommandAt}
pub use Rattle.driver_rows.specs.RingRows.RingSteps.{IsClear, IsRingAt, IsTransferAt, frees_badly}
pub use Rattle.driver_rows.specs.RingRows.Withdrawing.{NamesTransfer}
pub use Rattle.driver_rows.specs.WriteEffects.Starting.{EntryFits, IsInserted, IsWith, LiesOnWords, MayBeGiven, address_taken, binds_ring_if}
pub use Rattle.driver_rows.specs.declared.bindings.binding.RingBinding.{RingBinding}
pub use Rattle.driver_rows.specs.declared.bindings.context.Bound.{Bound}
pub use Rattle.driver_rows.specs.declared.bindings.context.Dequeue.{Dequeue}
pub use Rattle.event_ring.proofs.Words.{place_at-Data}
pub use Rattle.event_ring.specs.EventRing.{is_table_fault}
pub use Rattle.guest_memory.specs.Memory.{long_at}
unfoldable pub use Rattle.ownership_rules.specs.BadWithdrawals.{withdraws_badly}
unfoldable pub use Rattle.ownership_rules.specs.ByVersion.{has_busy_slot, has_left_out_endpoint, places_badly, writes_to_owned}
unfoldable pub use Rattle.ownership_rules.specs.Commands.{adds_isochronous, adds_streams, has_bad_entry, is_bad_added, is_bad_device, is_busy, shares_slot, streams_in, takes_bad_device, type_in}
unfoldable pub use Rattle.ownership_rules.specs.Moves.{binds_again, was_ring_bound}
unfoldable pub use Rattle.ownership_rules.specs.Older.{older, stricter}
pub use Rattle.ownership_rules.specs.Registers.{has_gap, is_impossible_read, is_in_run, is_restored, is_used}
unfoldable pub use Rattle.ownership_rules.specs.Registers.{is_bad_command_register, is_bad_size, is_bad_table, is_early_reset, is_written, is_wrong_size, read_tests}
unfoldable pub use Rattle.ownership_rules.specs.Rings.{goes_badly, is_bad_kind, is_in_use}
unfoldable pub use Rattle.ownership_rules.specs.Withdrawals.{is_no_descriptor, is_passed}
pub use Rattle.ownership_rules.specs.declared.refusal.Refusal.TheVariants.{BadCommand, BadFree, BadMove, Busy, ImpossibleRead, LinkFault, NotAsSubmitted, NotWhole, WriteToOwned}
pub use Rattle.ring_knowledge.proofs.GivenWords.{given_from}
pub use Rattle.ring_knowledge.specs.Histories.{gone}
unfoldable pub use Rattle.ring_knowledge.specs.Registers.{runs_again, runs_once}
pub use Rattle.ring_knowledge.specs.Resets.{reset}
unfoldable pub use Rattle.ring_knowledge.specs.Resets.{resets}
pub use Rattle.ring_knowledge.specs.RingRecords.{IsNotPassed}
pub use Rattle.ring_knowledge.specs.declared.register_record.RegisterRecord.{RegisterRecord}
pub use Rattle.ring_knowledge.specs.declared.ring_record.RingGiving.TheVariants.{Crossing, Position}
pub use Rattle.safety.proofs.DevicesKeep.AreaFacts.{area_parts}
pub use Rattle.safety.proofs.Posts.Areas.{ring_untouched}
pub use Rattle.safety.proofs.RingsKeep.CommandRing.{due_has_ring}
pub use Rattle.safety.proofs.CommandsKeep.CommandsBeside.{binds_ring_beside}
pub use Rattle.safety.proofs.DevicesKeep.DevicesWritten.{written_devices}
pub use Rattle.safety.proofs.RunKeeps.ErdpMoves.{no_place_stays}
pub use Rattle.safety.proofs.CommandsKeep.GivenRules.{given_facts}
pub use Rattle.safety.proofs.HeaderRings.Headers.{header_parts, ring_shape}
pub use Rattle.safety.proofs.RunKeeps.KeptClean.{taking}
pub use Rattle.safety.proofs.RingChanges.ComingGoing.{absent, no_command, no_event}
pub use Rattle.safety.proofs.RingChanges.ListedRings.{all_kept, all_more, none_found, overlaps_none, together_kept, together_more}
pub use Rattle.safety.proofs.RingChanges.OtherRings.{OtherRings, bound_still}
pub use Rattle.safety.proofs.RingChanges.RingRuns.{bad_same, f_keeps, fresh, no_ring}
pub use Rattle.safety.proofs.RingChanges.Segments.{segment_some}
pub use Rattle.safety.proofs.RingChanges.Squares.{cleared}
pub use Rattle.safety.proofs.RingChanges.Withdrawn.{HasStopped, stopped_with, with_stopped}
pub use Rattle.safety.proofs.HeaderRings.RingIds.{none_has_256}
pub use Rattle.safety.proofs.Rows.RowFrames.{SameRegisters, write_leaves}
pub use Rattle.safety.proofs.Rows.RowRegister.{event_place}
pub use Rattle.safety.proofs.Behind.UnfinishedBehind.{listed_unfinished}
pub use Rattle.safety.proofs.CommandsKeep.UnfinishedLists.{fails_in, in_range}
pub use Rattle.safety.proofs.Words.{AddressDevice, AfterStop, All, BadErdp, BadRegister, Bell, Binding, Block, BlockKind, Bool, Command, Config, ConfigureEndpoint, Contains, ContextSize, Crcr, Dcbaap, Declares, DeviceKeeps, DisableSlot, DriverKeeps, EnableSlot, EndpointState, Erdp, Erstba, Erstsz, EvaluateContext, Evt, Header, IsComing, IsDriverRing, IsHeader, IsIn, IsShape, IsTransferRing, Known, List, NoOp, None, NotDeclared, NotInProfile, Opens, Option, Refusal, Reg, Register, ResetDevice, ResetEndpoint, Restores, Ring, RingChange, RingKind, RingView, Row, SetTrDequeue, Shape, Some, StopEndpoint, Sub, Test, Usbcmd, Withdraws, Write, Writes, Xfer, [], address_aligned, address_ends, address_inside, address_of, and_from, and_left, and_parts, and_right, any_of, ap, append-nil, arith, base_address, block_at, broken_of, cases_Bool, cases_eq, cases_lt, ceiling_within, changed, clash, command_by_kind, command_of, cond-false, cond-true, cond_both, cons_option, cycle_of, cycle_of_bit, declared, device_context_bytes, eq-eqb, eqb-true, erdp_address, false, false_from_ne_true, false≢true, filter, filter_map, find, floor_number, fun_ext, get_or, gives, gives_crossing_is, gives_is, has_flag, id_of, if◌then◌else◌, inl, input_add_flag, input_context_bytes, input_drop_flag, inr, is_command_kind, is_command_left_out, is_driver_kind, is_dropped, is_event_kind, is_event_place, is_in, is_inside, is_none, is_off, is_reached_within, is_ring, is_set, is_shape, is_some, is_stopped, is_transfer_kind, is_transfer_ring, kind, le-ltb, length, link_address, link_address_inside, link_aligned, link_ends, list_all, list_any, list_any_at, lt-ltb, ltb-false, ltb-true, map, may_stand_together, named_context, named_endpoint, named_slot, nat_le, nat_lt, ne_eqb, none-some, not, not-false, not-true, not_from_false, option_and_then, option_map, or_from, or_left, or_parts, or_right, overlap, placed_by_context, position, position-Some, position_given_is, put, put_pair, range_with_len, refl, register_or_zero, reset_bit, ring_with, rings_overlap, rules, run_bit, same_Some, same_words, shape_facts, shape_or, slice_get, slice_get_within, slice_index, slot, slot_entry, some_of, subst, suc, sym, table_bytes, touches-word, true, unwrap_or, with_cycle, word, zero, ℕ, ◌%◌, ◌&&◌, ◌*◌, ◌++◌, ◌+◌, ◌-◌, ◌/◌, ◌<◌, ◌==◌, ◌^◌, ◌||◌, ◌∙◌, ◌∷◌, ◌≡◌, ◌≢◌, ◌≤◌, ◌⊎◌}
unfoldable pub use Rattle.safety.proofs.Words.{added_endpoints, awaits_binding, binding_in, binds, binds_ring, broken, ceiling, changes, changes_owned, command_at, command_given, command_id, context_ranges, covers, crossings_given, declaration_tests, device_named, device_ranges, driver_rings, drops, due_positions, endpoint_rung, entry_of, entry_ranges, event_ring, event_shape, flips_passed, forgotten, given_by, given_of, has_bad_content, has_bad_context, has_repeats, has_stopped, holds_of, interrupts, is_among, is_bad_area, is_bad_bell, is_bad_binding, is_bad_command, is_bad_crcr, is_bad_dequeue, is_bad_doorbell, is_bad_erdp, is_bad_free, is_bad_move, is_bad_place, is_bad_register, is_bad_ring, is_bad_segment, is_bad_stay, is_bad_withdraw, is_being_bound, is_being_moved, is_declared_as, is_driver_ring, is_early_start, is_had, is_in_range_lease, is_kept, is_late_reset, is_move, is_no_first_block, is_not_declared, is_not_restored, is_not_whole, is_open, is_other_than_declared, is_placed, is_placement, is_soiled, is_taken, is_the_controllers, is_touched, is_unwritten, is_wrong_link, is_wrong_start, leads_wrong, learned, lease_bytes, lease_start, lenient, lenient_tests, may_pass, moves_ring, names_disabled_endpoint, names_disabled_slot, names_no_place, no_device, on_crossing, on_position, on_ring, open_ranges, positions_given, range_of_command, range_of_context, range_of_device, range_of_entry, register_tests, register_written, restored_on, ring_bound, ring_having, ring_moved, ring_restored, run_or_stop, rung, segment_ranges, shape_of, shows_first_lap, slots, some_command, some_crossed, some_flips, some_given, table_range, taken_device, tests, touches_endpoint, touches_ring, unfinished, unfinished_positions, unrestored, valued, with_device, with_ring, with_word, without_ring, write_tests, written}
pub use Rattle.safety.proofs.CommandsKeep.WriteBeside.{beside_old, rules_of}
pub use Rattle.safety.proofs.Rows.WrittenKnown.{after_write, taken, written_device, written_device_none, written_memory, written_ring}
pub use Rattle.safety.specs.RingChanges.Histories.{IsKept}
pub use Rattle.segments.proofs.Search.{position-None}
unfoldable pub use Rattle.segments.specs.Givings.{descriptor_length, link_of}
pub use Rattle.segments.specs.Places.{links}
pub use Rattle.std.proofs.Common.{Err, IfErr, IfSome, Ok, OnOk, Result, max, set, take}
pub use Rattle.std.proofs.Math.ListN.{length-set}
pub use Rattle.std.proofs.Math.Seq.{take-length}
pub use Rattle.std.proofs.lemmas.Grind.{common_steps}
pub use Rattle.std.proofs.lemmas.List.{get_or_default}
pub use Rattle.std.proofs.lemmas.List.Elements.{filter_map-append}
pub use Rattle.std.proofs.lemmas.List.Folds.{list_any_none}
pub use Rattle.std.proofs.lemmas.Nat.Bits.{bit_at-pow_other, bit_at-zero}
pub use Rattle.std.proofs.lemmas.Option.{slice_get_cases}
pub use Rattle.std.proofs.lemmas.Result.{on_ok_weaker}
pub use Rattle.std.specs.List.{remove}
pub use Rattle.std.specs.List.Sorted.{IsPartitionPoint}
pub use Rattle.std.specs.Vec.{with_item}
pub use Rattle.trace_record.proofs.BesideCommands.{commands_come, events_come, events_go}
pub use Rattle.trace_record.proofs.BoundRings.{any_in, binds_same, bound_same}
pub use Rattle.trace_record.proofs.DeviceSlots.AtMostOne.{any_either, any_same}
pub use Rattle.trace_record.proofs.DeviceSlots.Bells.{rung_first, rung_later}
pub use Rattle.trace_record.proofs.DeviceSlots.HolderCounts.{is_same, named}
pub use Rattle.trace_record.proofs.DeviceSlots.Inserted.{Inserted}
pub use Rattle.trace_record.proofs.DeviceSlots.OtherRows.{after_declaration, after_register, after_word}
pub use Rattle.trace_record.proofs.DeviceSlots.Steps.{follows_beside}
pub use Rattle.trace_record.proofs.DeviceSlots.TouchedEndpoints.{touched_about}
pub use Rattle.trace_record.proofs.DeviceSlots.UnfinishedSame.{ring_elsewhere, same_blocks, unfinished_declared, unfinished_register, unfinished_rung, unfinished_same}
pub use Rattle.trace_record.proofs.DeviceSlots.UnfinishedWritten.{GivesOne, allowed_gives, written_with, written_without}
pub use Rattle.trace_record.proofs.FirstBroken.{first_broken-is, nothing_broken}
pub use Rattle.trace_record.proofs.GivenCommands.{command_is, given_by_ring, none_nowhere}
pub use Rattle.trace_record.proofs.ListPlaces.{kept_others}
pub use Rattle.trace_record.proofs.OneRingHas.{no_driver_event}
pub use Rattle.trace_record.proofs.RingFinder.CommandRings.{command_id_is, found_at}
pub use Rattle.trace_record.proofs.RingFinder.FoundRings.{command_found, no_command_ring}
pub use Rattle.trace_record.proofs.RingFinder.HeaderRings.{no_command_here, ring_found}
pub use Rattle.trace_record.proofs.RingFinder.ListTests.{from_not}
pub use Rattle.trace_record.proofs.RingFinder.Numbers.{some_ring}
pub use Rattle.trace_record.proofs.RingFinder.RingsApart.{numbers_apart, other_number, same_number}
pub use Rattle.trace_record.proofs.RingFinder.TouchedSegments.{last_before_end, no_bytes}
pub use Rattle.trace_record.proofs.Words.{Apart, Data, EventState, FollowsDevices, FollowsEvents, FollowsRegisters, FollowsRing, FollowsTrace, FollowsUnfinished, HoldsAreas, HoldsSoiled, IsAmong, IsGivenBy, IsGivenOn, IsPlaced, Link, RingGiving, RingRecord, all_from_one, among_at, and_false, any_append, any_filter, any_flat_map, any_map, any_nowhere, crossings_of, device_contexts, each_among, event_here, false_unless, find_some, first_broken, first_of, inputs_of, nat_tests, no_driver, none_here, not_found, nothing_from, one_driver, or_false, positions_of, ring_here, same_or_apart, shape_allowed, shape_there, slice_get_read, together, touches}
pub use Rattle.trace_record.proofs.WordsInside.{gives_no_crossing, gives_no_position}
pub use Rattle.trace_record.specs.DeviceSlots.Addressing.{is_address_device}
pub use Rattle.trace_record.specs.DeviceSlots.Holders.{HasEndpoint}
pub use Rattle.trace_record.specs.DeviceSlots.Indices.{IsOnlyAbout, NamesEndpoint, index_of, is_about, is_slot, names}
pub use Rattle.trace_record.specs.DeviceSlots.Unfinished.{as_list}
pub use Rattle.trace_record.specs.FollowsTrace.{HoldsBound}
pub use Rattle.trace_record.specs.Premises.{ContextsFit, FitsMemory, IsSetUp, StartedIsThere}
pub use Rattle.trace_record.specs.RingChanges.{Comes, Goes, HasNoEvents, SameCommands}
pub use Rattle.trace_record.specs.RingCommands.{command_on}
pub use Rattle.trace_record.specs.RingFinder.Finding.{IsFinder}
pub use Rattle.trace_record.specs.RingFinder.RecordsOfRings.{FollowsRings}
pub use Rattle.trace_record.specs.RingSets.{has}
pub use Rattle.trace_record.specs.RowPlaces.{IsPlacedSo}
pub use Rattle.trace_record.specs.Steps.{IfRefused, IsLeast, IsRowStep}
pub use Rattle.trace_record.specs.declared.device_record.kept.DeviceRecord.{DeviceRecord}
pub use Rattle.trace_record.specs.declared.device_record.unfinished.UnfinishedCommands.{UnfinishedCommands}
pub use Rattle.trace_record.specs.declared.fault.StepFault.{StepFault}
pub use Rattle.trace_record.specs.declared.fault.StepFault.TheVariants.{Memory, Refused}
pub use Rattle.trace_record.specs.declared.range_words.areas.Areas.{Areas}
pub use Rattle.trace_record.specs.declared.range_words.soiled.SoiledWords.{SoiledWords}
pub use Rattle.trace_record.specs.declared.ring_finder.finder.Finder.{Finder}
pub use Rattle.trace_record.specs.declared.ring_finder.finder.Start.{Start}
pub use Rattle.trace_record.specs.declared.ring_set.RingSet.{RingSet}
pub use Rattle.trace_record.specs.declared.row_place.RowPlace.{RowPlace}
pub use Rattle.trace_record.specs.declared.trace_record.TraceRecord.{TraceRecord}
pub use Rattle.traces.specs.Halts.{is_asked, is_done}
pub use Rattle.traces.specs.Header.{id_or_none, no_shape}
unfoldable pub use Rattle.traces.specs.Header.{command_ring}
pub use Rattle.traces.specs.Versions.{has_runs, is_lenient, profile_of}
pub use Rattle.traces.specs.declared.halt.Halt.{Halt}
pub use Rattle.traces.specs.declared.row.Row.TheVariants.{Free as FreeRow, Nop as NopRow, RegRead, Ring as RingRow}
pub use Rattle.trb.specs.Block.{aligned as address}
pub use Rattle.trb.specs.declared.profile.Profile.{Profile}
pub use Rattle.trb.specs.declared.ring_kind.RingKind.TheVariants.{Cmd}
pub use Rattle.world_state.proofs.EventPlaces.{is_place, no_place}
