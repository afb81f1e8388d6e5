-- The words of std, of the crates below and of this crate's own definitions that its proofs cite, passed on by one file
pub use Rattle.commands.specs.Changes.{Change, DeviceLeft, Disables, Places, Resets, SlotGoesOn, Stops, Types, is_above_control, placed_by_context, slot_gone_on, typed_by_context}
unfoldable pub use Rattle.commands.specs.Changes.{changes}
pub use Rattle.commands.specs.Command.{command_by_kind, command_of, is_stop_of, may_answer_slot, name_one_slot, named_context, named_endpoint, named_slot, same_slot}
pub use Rattle.commands.specs.SideBySide.{concerns, concerns_named, exclude}
pub use Rattle.commands.specs.States.{endpoint_meant, endpoint_success, is_at_rest, is_disabled, is_off, is_running, is_slot_enabled, is_stopped, slot_meant, slot_success}
unfoldable pub use Rattle.commands.specs.States.{can_succeed}
pub use Rattle.commands.specs.declared.command.Command.{Command}
pub use Rattle.commands.specs.declared.command.Command.TheVariants.{AddressDevice, ConfigureEndpoint, DisableSlot, EnableSlot, EvaluateContext, NoOp, ResetDevice, ResetEndpoint, SetTrDequeue, StopEndpoint}
pub use Rattle.commands.specs.declared.state.EndpointState.{EndpointState}
pub use Rattle.commands.specs.declared.state.EndpointState.TheVariants.{Disabled as Off, Error, Halted, Running, Stopped}
pub use Rattle.commands.specs.declared.state.SlotState.{SlotState}
pub use Rattle.commands.specs.declared.state.SlotState.TheVariants.{Addressed, Configured, Default, Disabled, Enabled}
pub use Rattle.contexts.specs.Contexts.{context_cycle, context_pointer, device_context, device_context_bytes, endpoint_streams, endpoint_type, has_flag, has_isochronous, input_add_flag, input_context_bytes, input_drop_flag, input_endpoint, is_dropped, slot_entry}
unfoldable pub use Rattle.contexts.specs.Contexts.{added_endpoints}
pub use Rattle.contexts.specs.declared.size.ContextSize.{ContextSize}
pub use Rattle.contexts.specs.declared.size.ContextSize.TheVariants.{Bytes32, Bytes64}
pub use Rattle.event_ring.proofs.CountLemmas.{posted_in_order}
pub use Rattle.event_ring.specs.EventRing.{AreInOrder, erdp_address, has_room, is_event_place, is_reached_within, position_from, table_bytes}
pub use Rattle.guest_memory.specs.Memory.{put, put_pair}
pub use Rattle.ownership_rules.proofs.Among.{IsIn, any_of, both_ways, from_filter, in_filter, some_of}
unfoldable pub use Rattle.ownership_rules.specs.Areas.{is_bad_area, is_in_range_lease, is_soiled}
unfoldable pub use Rattle.ownership_rules.specs.Commands.{adds_streams, has_bad_content, has_bad_context, has_bad_entry, is_bad_added, is_bad_command, is_bad_device, is_busy, names_disabled_endpoint, names_disabled_slot, streams_in, takes_bad_device, type_in}
unfoldable pub use Rattle.ownership_rules.specs.Declarations.{declaration_tests, is_driver_ring}
unfoldable pub use Rattle.ownership_rules.specs.Doorbells.{doorbell_tests, is_bad_bell, is_bad_doorbell, is_touched, touches_endpoint}
unfoldable pub use Rattle.ownership_rules.specs.Events.{can_finish, can_report, can_report_at, event_tests, is_code_of_profile, is_impossible, is_impossible_by_kind, is_impossible_completion, is_impossible_transfer, is_in_profile, is_past_room, is_stopping_now, is_working, may_be_taken, was_stop_seen}
unfoldable pub use Rattle.ownership_rules.specs.LenientRules.{lenient}
pub use Rattle.ownership_rules.specs.Moves.{Binding}
unfoldable pub use Rattle.ownership_rules.specs.Moves.{awaits_binding, binding_in, binds, binds_ring, drops, has_repeats, is_among, is_bad_binding, is_bad_dequeue, is_bad_move, is_bad_place, is_bad_stay, is_being_bound, is_being_moved, is_kept, is_placed, is_taken, moves_ring, ring_bound}
pub use Rattle.ownership_rules.specs.Older.{stricter}
unfoldable pub use Rattle.ownership_rules.specs.OnLiterals.{rules_on_literals}
pub use Rattle.ownership_rules.specs.OpenLeases.{DeviceContext, InputContext, Leased, Range, SegmentTable, SlotEntry, Use}
unfoldable pub use Rattle.ownership_rules.specs.OpenLeases.{context_ranges, covers, device_ranges, entry_ranges, is_leased, is_the_controllers, lease_bytes, lease_start, open_leases, open_on, open_ranges, range_of_command, range_of_context, range_of_device, range_of_entry, segment_ranges, slots, table_range}
pub use Rattle.ownership_rules.specs.Refusal.{Test, broken_of}
pub use Rattle.ownership_rules.specs.Registers.{is_in_run, is_named, is_restored, is_run, is_used, is_value}
unfoldable pub use Rattle.ownership_rules.specs.Registers.{has_gap, is_bad_command_register, is_bad_crcr, is_bad_erdp, is_bad_register, is_early_reset, is_early_restore, is_early_resume, is_early_save, is_early_start, is_impossible_read, is_impossible_status, is_late_reset, is_no_first_block, is_unwritten, is_written, is_wrong_start, may_pass, names_no_place, read_tests, register_tests, saves_badly}
pub use Rattle.ownership_rules.specs.Rings.{is_transfer_ring}
unfoldable pub use Rattle.ownership_rules.specs.Rings.{goes_badly, is_bad_free, is_bad_kind, is_bad_ring, is_bad_segment, is_had, is_in_use, shows_first_lap}
unfoldable pub use Rattle.ownership_rules.specs.Rules.{broken, lenient_tests, tests}
unfoldable pub use Rattle.ownership_rules.specs.Withdrawals.{has_stopped, is_bad_withdraw, is_left, is_no_descriptor, is_unfit, may_be_told, may_tell_value, rests_with, some_flips}
pub use Rattle.ownership_rules.specs.Writes.{clears_chain}
unfoldable pub use Rattle.ownership_rules.specs.Writes.{changes_owned, holds_of, is_link_control, on_crossing, on_position, some_command, some_crossed, some_given, unchains, write_tests}
pub use Rattle.ownership_rules.specs.declared.refusal.Refusal.{Refusal}
pub use Rattle.ownership_rules.specs.declared.refusal.Refusal.TheVariants.{AfterStop, BadErdp, BadRegister, NotDeclared, NotInProfile}
pub use Rattle.ring_knowledge.proofs.Ranges.{find_first, none_each}
pub use Rattle.ring_knowledge.proofs.StopSpots.{way_without}
unfoldable pub use Rattle.ring_knowledge.specs.Completions.{bound_to, changed_by, changed_by as known_changed_by, changed_by_all, changed_by_all as known_changed_by_all, completed, disabled, disabled as known_disabled, finished, finished as known_finished, held_at_ceiling, in_state, in_state as known_in_state, moved, moved_to, pointed, set_to, stop_ended, succeeded, succeeded as known_succeeded, typed, typed as known_typed}
pub use Rattle.ring_knowledge.specs.Histories.{header_now, known_after, known_now, restored}
unfoldable pub use Rattle.ring_knowledge.specs.Histories.{forgotten, gone, gone as known_gone, restored_on, ring_moved, ring_restored}
pub use Rattle.ring_knowledge.specs.Known.{Known}
unfoldable pub use Rattle.ring_knowledge.specs.Known.{nothing}
unfoldable pub use Rattle.ring_knowledge.specs.Learned.{event_read, learned}
unfoldable pub use Rattle.ring_knowledge.specs.Registers.{endpoint_rung, register_read, register_written, run_or_stop, rung, runs_again, runs_once, status_read, valued}
unfoldable pub use Rattle.ring_knowledge.specs.Resets.{behind_blocks, first_free, given_up, held_at_given, reset, resets}
pub use Rattle.ring_knowledge.specs.Rings.{Crossing, Given, Position, RingSpot}
unfoldable pub use Rattle.ring_knowledge.specs.Rings.{code_told, command_at, event_at, given_by, given_of, next_command, on_ring, spot_named, spot_on, unfinished, unfinished_positions}
unfoldable pub use Rattle.ring_knowledge.specs.Transfers.{broken_off, passed, passed as transfers_passed, stopped_at, transfer_read, transferred, transferred_at}
unfoldable pub use Rattle.ring_knowledge.specs.Writes.{command_given, device_named, entry_of, no_device, taken_device, with_device, with_word, written}
pub use Rattle.safety.specs.Beneath.{HeldMore, IsHeldMore, IsIdleEndpoint, MayRing, MoreLaw, Square, SquareLaw, is_idle, is_open_if, resets_by}
pub use Rattle.safety.specs.EndpointsKeep.{EndpointsKeep, IsTransferRing as IsTransferTest}
pub use Rattle.safety.specs.Headline.{Headline}
pub use Rattle.safety.specs.Invariant.{ArePossible, Ended, Runs, all_read}
pub use Rattle.safety.specs.Keeps.{CommandKeeps, CommandRingKeeps, DeviceKeeps, DriverKeeps, IsDriverRing, IsNobodys, IsTransferRing, IsUnfinished, MovesIf, RunKeeps, StatesKeep, Stays, StaysIf, Unstarted}
pub use Rattle.safety.specs.KeptHistories.{IsDriverRow, MayRead, StillReads}
pub use Rattle.safety.specs.KeptStep.{CommandsKeep, DevicesKeep, KeptByRestoring, KeptByRows}
pub use Rattle.safety.specs.LazyRuns.LateEvents.{IsTimely, is_report_of_success}
unfoldable pub use Rattle.safety.specs.LazyRuns.LateEvents.{is_held_ring, is_late}
pub use Rattle.safety.specs.LazyRuns.Law.{AllAreRead, AreAtFloors, ContainsAll, FewSteps, GoesSoFar, LazyLaw}
pub use Rattle.safety.specs.LazyRuns.Lazy.{further as lazy_further}
unfoldable pub use Rattle.safety.specs.LazyRuns.Lazy.{brought, brought as lazy_brought, command_taken, further, goals, goals as lazy_goals, is_first_halt, lazy_run, lazy_steps, looks_to, open_goals, pointers_after, pointers_at, pointers_for, post_of, report_goals, spots_before, steps_before, steps_for, stop_goal, stopped_goals, taken_up_to}
unfoldable pub use Rattle.safety.specs.LazyRuns.Needs.{begins_anew, ends_need, is_placed_by, is_placed_by_all, need, number_behind, number_reported, ring_placed}
unfoldable pub use Rattle.safety.specs.LazyRuns.OnLiterals.{lazy_on_literals}
pub use Rattle.safety.specs.Matches.{Agrees, BoundRing, CommandMatches, EndpointRing, FreeRing, IsUnchanged, Matches, Newest, NotNamed, Rests, RingMatches, RingState, TakenCommand, UnderWayMatches, Unreported, state_of, take_at}
pub use Rattle.safety.specs.Placings.{AreFree, MayChange, MayChangeAll, MayFinish, MayPoint, StillHolds}
pub use Rattle.safety.specs.Restoring.{EndpointRestored, KeepsPassed, MayCome, MovesRestored}
pub use Rattle.safety.specs.RingChanges.Histories.{AreKept, IsKept, MayBegin}
pub use Rattle.safety.specs.RingsKeep.{PassesNoMore, RingKept, RingsKeep, RingsKept}
pub use Rattle.safety.specs.Stands.{EventsStand, Stands, touches_events}
pub use Rattle.segments.proofs.Crossings.{crossed_link, crosses, crossing_positive, cycle_of-crossed, is_crossing-lap, link_address-lap, link_address_is, link_target-crossed}
pub use Rattle.segments.proofs.DataPlaces.{link_aligned, link_ends, link_inside, links_apart, place_not_link}
pub use Rattle.segments.proofs.Declaring.{declares_keeps, given_count-declares, slice_get-append}
pub use Rattle.segments.proofs.DueLists.{crossing_given, leased_crossing, leased_position, no_flips, none_passes_at, position_given, position_given_is, shown_where_restored, unrestored_position}
pub use Rattle.segments.proofs.Elsewhere.{address_inside, link_address_inside}
pub use Rattle.segments.proofs.GivenCount.{given_below, given_count_grows, given_count_most, given_count_same, given_count_still, given_count_stops}
pub use Rattle.segments.proofs.Giving.{IsCrossingDue, crossing_due_from, crossing_due_is, due_from, due_is, gives_crossing_from, gives_crossing_is, gives_from, gives_is}
pub use Rattle.segments.proofs.InsideLemmas.{rings_apart, touches-word}
pub use Rattle.segments.proofs.MemoryWords.{SameBlock, block_same, put_elsewhere, put_here}
pub use Rattle.segments.proofs.MoveTargets.{move_target}
pub use Rattle.segments.proofs.MovesStay.{is_border-push, move-declares, move-writes, move_more, placement_still}
pub use Rattle.segments.proofs.Named.{IsAhead, below_is, ceiling_held, ceiling_within, found_is, named_ahead, target_ahead}
pub use Rattle.segments.proofs.NamedSpots.{IsNamed, named_spot-Some, named_spot-is, named_spot-near}
pub use Rattle.segments.proofs.NewRing.{new_ring_keeps}
pub use Rattle.segments.proofs.OneGiving.{gives_one, positions_given-one}
pub use Rattle.segments.proofs.PlaceAtLemmas.{is_in-parts}
pub use Rattle.segments.proofs.Positions.{address_aligned, address_ends, address_of-lap, address_of-place, cycle_of-first, cycle_of_bit, cycle_of_flips, place_below, place_count_pos, place_of-parts, same_in_lap, same_in_lap_of, same_place_of}
pub use Rattle.segments.proofs.ReachedSpots.{after_reached, data_reached, move_reached, number-after, stop_spot_reached, stopped_within}
pub use Rattle.segments.proofs.Reaching.{crossed_due, floor_given, given_count_declared, given_count_near, holds_and_reaches_keeps, holds_keeps, kept_cycle, moved_keeps, opens_keeps, reached_given, reaches_and_holds_keeps, reaches_keeps}
pub use Rattle.segments.proofs.Search.{cases_option, position-None}
pub use Rattle.segments.proofs.ShapeFacts.{shape_facts}
pub use Rattle.segments.proofs.SpotOrder.{data_not_link, next_is_spot, next_later, next_least, rank_least, rank_most, same_rank, same_spot, spot_address-after, spot_cycle-after}
pub use Rattle.segments.proofs.StepFacts.{GivesMore, step_is, step_more, whole_is, whole_more}
pub use Rattle.segments.proofs.Withdrawing.{length-no_ops, restores_keeps, split_border, withdraws_keeps}
pub use Rattle.segments.proofs.Writing.{given_count-writes, writes_keeps, writes_more}
pub use Rattle.segments.specs.Ceiling.{named_by}
unfoldable pub use Rattle.segments.specs.Ceiling.{ceiling, data_at, given_count, is_data_below, is_open, is_step_given, is_stop_spot, is_way_given, named, named_data, stopped_number}
pub use Rattle.segments.specs.Descriptors.{DeclaredBlock, no_ops, split_at}
unfoldable pub use Rattle.segments.specs.Descriptors.{declared_at, is_border, length_from}
pub use Rattle.segments.specs.Givings.{same}
unfoldable pub use Rattle.segments.specs.Givings.{descriptor_length, flips_passed, has_no_room, interrupts, is_declared_as, is_not_declared, is_not_restored, is_not_whole, is_other_than_declared, is_wrong_link, leads_wrong, unrestored}
unfoldable pub use Rattle.segments.specs.Moves.{is_move, is_placement, is_reached, is_target, may_move_to, spots_between, target}
pub use Rattle.segments.specs.Places.{address_of, cycle_of, data_places, is_crossing, is_in, is_inside, link_address, link_crossed, link_target, links, overlap, place_count, place_of, segment_has, toggles, touches}
pub use Rattle.segments.specs.RingKeeps.{IsRestored, IsShownTo, MayDeclare, MayReach, MayWrite, RingKeeps}
pub use Rattle.segments.specs.RingView.{Declares, Holds, Opens, Reaches, Restores, RingChange, RingView, Withdraws, Withdraws as RingWithdraws, Writes, changed, declared, floor_number, gives, gives_crossing, is_crossing_due, is_due, is_handed_over, new_ring}
unfoldable pub use Rattle.segments.specs.RingView.{crossings_given, due_crossings, due_positions, leased_crossings, leased_positions, positions_given}
pub use Rattle.segments.specs.Shape.{IsShape, alignment, are_apart, is_in_one_page, is_segment, is_shape, least_count, most_blocks, rings_overlap, segments_overlap}
pub use Rattle.segments.specs.ShapeValue.{Shape}
pub use Rattle.segments.specs.Spots.{IsSpot, after, is_spot, next, number, rank, spot_address, spot_cycle, spots_from}
pub use Rattle.segments.specs.declared.segment.Segment.{Segment}
pub use Rattle.segments.specs.declared.spot.Spot.{Spot}
pub use Rattle.segments.specs.declared.spot.Spot.TheVariants.{Data, Link}
pub use Rattle.std.proofs.Common.{All, Bool, Contains, List, None, Option, Some, [], add-zero, ap, append-nil, append_assoc, arith, cond, drop, drop-drop, eq-eqb, eqb-true, false, filter, find, get_or, if◌then◌else◌, inl, inr, is_none, is_some, le-leb, le-ltb, leb-false, leb-true, length, length-append, length-drop, lt-ltb, ltb-false, ltb-true, map, max, min, mod-lt, nat_le, nat_lt, ne_eqb, not, option_and_then, position, refl, reverse, rules, slice_get, slice_index, subst, suc, sum, sym, true, unwrap_or, zero, ℕ, ◌%◌, ◌&&◌, ◌*◌, ◌++◌, ◌+◌, ◌-◌, ◌/◌, ◌<◌, ◌==◌, ◌^◌, ◌||◌, ◌∙◌, ◌∷◌, ◌≡◌, ◌≢◌, ◌≤◌, ◌⊎◌}
pub use Rattle.std.proofs.Math.Nat.{mod-eq_of_lt}
pub use Rattle.std.proofs.Math.Path.{fun_ext}
pub use Rattle.std.proofs.lemmas.Bool.{and_cases, and_from, and_left, and_parts, and_right, cases_Bool, cases_eq, cases_lt, cond-false, cond-true, cond_both, eqb-false, false_from_ne_true, false≢true, lt-leb, not-false, not-true, not_from_false, not_from_true, or_cases, or_from, or_left, or_parts, or_right}
pub use Rattle.std.proofs.lemmas.List.{drop_all, get_or-append_right, get_or-map, get_or-reverse, length-map, length-reverse, reverse-append, reverse-reverse}
pub use Rattle.std.proofs.lemmas.List.Elements.{All-append, All-cons, All-contains, All-filter, All-get_or, All-head, All-map, All-nil, All-push, All-tail, All-weaker}
pub use Rattle.std.proofs.lemmas.List.Folds.{Any-from_list_any, find-append, list_any-append, list_any_at}
pub use Rattle.std.proofs.lemmas.List.FromFn.{get_or-map-range_with_len, length-map-range_with_len, map-range_with_len_more}
pub use Rattle.std.proofs.lemmas.List.Quantifiers.{position-Some}
pub use Rattle.std.proofs.lemmas.List.Sums.{sum_by-cons}
pub use Rattle.std.proofs.lemmas.Nat.{mod_below}
pub use Rattle.std.proofs.lemmas.Option.{cond_some, get_or_from_slice_get, none-some, same_Some, slice_get-get_or, slice_get_past, slice_get_within}
pub use Rattle.std.specs.List.{cons_option, filter_map, flat_map, list_all, list_any, range_with_len}
pub use Rattle.std.specs.Option.{option_map, option_or}
pub use Rattle.traces.specs.AllowedHeaders.{AreUnmoved, IsHeader, clash, may_stand_together}
pub use Rattle.traces.specs.Halts.{is_asked, is_done, seen, told}
pub use Rattle.traces.specs.Header.{id_of, id_or_none, is_command_kind, is_driver_kind, is_event_kind, is_ring, is_transfer_kind, no_id, ring_with, shape_or}
unfoldable pub use Rattle.traces.specs.Header.{command_id, command_ring, driver_rings, event_id, event_ring, event_shape, event_size, ring_having, shape_of, touches_ring}
pub use Rattle.traces.specs.LivingRings.{header_after}
unfoldable pub use Rattle.traces.specs.LivingRings.{with_ring, without_ring}
pub use Rattle.traces.specs.Register.{base_address, command_abort, command_stop, halted_bit, register_or_zero, reset_bit, ring_cycle_state, run_bit, same_register, with_register}
pub use Rattle.traces.specs.Rows.{AreSteps, IsComing, IsRow, is_ring_row}
pub use Rattle.traces.specs.Steps.{IsStep}
pub use Rattle.traces.specs.Versions.{has_isoch, has_runs, may_have_data, profile_of}
pub use Rattle.traces.specs.declared.halt.Halt.{Halt as HaltState}
pub use Rattle.traces.specs.declared.halt.Halt.TheVariants.{Not as NotHalting}
pub use Rattle.traces.specs.declared.header.Header.{Header}
pub use Rattle.traces.specs.declared.register.Register.{Register}
pub use Rattle.traces.specs.declared.register.Register.TheVariants.{Config, Crcr, Dcbaap, Erdp, Erstba, Erstsz, Usbcmd, Usbsts}
pub use Rattle.traces.specs.declared.ring.Ring.{Ring}
pub use Rattle.traces.specs.declared.row.Row.{Row}
pub use Rattle.traces.specs.declared.row.Row.TheVariants.{Bell, Free as FreeRow, Nop as NopRow, Read, Reg, RegRead, Ring as RingRow, Sub, Write}
pub use Rattle.traces.specs.declared.step.Step.{Step}
pub use Rattle.traces.specs.declared.step.Step.TheVariants.{Finish, Halt, Look, NextRow, Other, Report, Scribble}
pub use Rattle.traces.specs.declared.version.Version.TheVariants.{Four, One, Three}
pub use Rattle.trb.proofs.BlockLemmas.{cycle-with_cycle, endpoint-with_cycle, is_set-with_cycle, kind-with_cycle, slot-with_cycle}
pub use Rattle.trb.specs.Bits.{is_set}
pub use Rattle.trb.specs.Block.{IsBlock, aligned, block_at, code, cycle, data_value, endpoint, has_event_data, has_value, kind, pointer, same_words, slot, with_cycle, word}
pub use Rattle.trb.specs.CompletionCode.{counted_code, is_halting, is_of_service, is_stopping, is_success, is_transfer_code, is_trb_error}
pub use Rattle.trb.specs.Descriptor.{is_bad_descriptor, is_badly_formed, is_command_left_out, is_left_out, is_no_command}
pub use Rattle.trb.specs.Kind.{is_command_completion, is_event, is_event_data, is_link, is_other_event, is_transfer, is_transfer_event}
pub use Rattle.trb.specs.declared.block.Block.{Block}
pub use Rattle.trb.specs.declared.kind.BlockKind.{BlockKind}
pub use Rattle.trb.specs.declared.kind.BlockKind.TheVariants.{CommandCompletion, TransferEvent}
pub use Rattle.trb.specs.declared.profile.Profile.{Profile}
pub use Rattle.trb.specs.declared.ring_kind.RingKind.{RingKind}
pub use Rattle.trb.specs.declared.ring_kind.RingKind.TheVariants.{Cmd, Evt, Xfer}
pub use Rattle.world_state.proofs.EventsRead.{read_made}
pub use Rattle.world_state.proofs.FirstFound.{first_at-found}
pub use Rattle.world_state.proofs.Pairs.{put_pair_same}
pub use Rattle.world_state.proofs.Ranges.{any_in_range}
unfoldable pub use Rattle.world_state.specs.Bindings.{changed_by as world_changed_by, changed_by_all as world_changed_by_all, disabled as world_disabled, effect, effect as bindings_effect, has_one_of, in_state as world_in_state, inactive, is_had_by_another, placed, placed_on, typed as world_typed}
pub use Rattle.world_state.specs.DriverRows.{event_read as driver_event_read}
unfoldable pub use Rattle.world_state.specs.DriverRows.{activated, bell_row, command_placed, declared as driver_declared, endpoint_bell, endpoint_bell as driver_endpoint_bell, is_command_ring, register_row, reset as driver_reset, resets as driver_resets, row_done, run_or_stop as driver_run_or_stop, runs_again as driver_runs_again, runs_once as driver_runs_once, shows, valued as driver_valued, with_command_ring, with_dequeue}
unfoldable pub use Rattle.world_state.specs.Finishes.{ended, ended_with, finished as finish_finished, finished_as, passes_end, succeeded as finish_succeeded}
pub use Rattle.world_state.specs.Harms.{IsSafe}
unfoldable pub use Rattle.world_state.specs.Harms.{harm_of, harms, has_changed_context, has_other_words, is_changed_since, is_context_changed, is_end, is_inside_descriptor, is_out_of_order, is_right_place, waits}
unfoldable pub use Rattle.world_state.specs.Looks.{command_begun, crossed, looked, looked_at, may_scribble, seen_by_look, taken as looks_taken, taken_on}
unfoldable pub use Rattle.world_state.specs.OnLiterals.{world_on_literals}
unfoldable pub use Rattle.world_state.specs.Posts.{can_post, code_posted, is_stop_under_way, other_posted, posted, posted as posts_posted, report_code, report_error, report_stop, report_success, reported, reported_on, stopped_with, with_reported, with_stopped}
pub use Rattle.world_state.specs.Replays.{NoHarm, scene_ending}
pub use Rattle.world_state.specs.RingRows.{is_in_way}
unfoldable pub use Rattle.world_state.specs.RingRows.{emptied, listed, may_come, resting, without_descriptor}
pub use Rattle.world_state.specs.Scenes.{Scene, row_next, scene_reached, step_made, with_coming, with_left, with_world}
unfoldable pub use Rattle.world_state.specs.Steps.{counted, halts, is_scribbled, made, made as steps_made, noting_post, scribbled, until_halted, while_running}
unfoldable pub use Rattle.world_state.specs.Takes.{declared_next, first_at, is_as_declared, is_place, names, names_last, next_take, take_of, takes_of, unreported, was_placed}
pub use Rattle.world_state.specs.World.{Placed, RingEvent, Took, UnderWay, World}
unfoldable pub use Rattle.world_state.specs.World.{opening, stored, stored_block}
pub use Rattle.world_state.specs.declared.harm.Harm.{Harm}
pub use Rattle.world_state.specs.declared.harm.Harm.TheVariants.{InputContextChanged, LooksOutside, PostsOverUnread, TakenOtherWords, TakenOutOfOrder, WaitsInsideDescriptor}
pub use Rattle.world_state.specs.declared.take.Take.{Take}
pub use native.Mathlib.Numerals.{unary_clauses}
