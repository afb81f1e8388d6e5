-- The words of std, of the crates below and of this crate's own definitions that its proofs cite, passed on by one file
pub use Rattle.commands.specs.Changes.{typed_by_context}
pub use Rattle.commands.specs.Command.{IsSaid}
pub use Rattle.contexts.specs.Contexts.{endpoint_type, has_isochronous, input_add_flag, input_endpoint, is_isochronous}
pub use Rattle.contexts.specs.View.{View}
pub use Rattle.driver_rows.proofs.ContextRules.FittingCommands.{aligned_at, good_fits}
pub use Rattle.driver_rows.proofs.DoorbellRows.Followed.{AreOffAs, IsBeside, IsOnly, followed, has_record, none_found, put_on}
pub use Rattle.driver_rows.specs.DoorbellRows.Numbers.{number_of}
pub use Rattle.event_rows.specs.CommandCompletions.Commands.{is_no_completion}
pub use Rattle.event_rows.specs.CommandCompletions.OneRing.{MayMoveTo, ReachesTarget, number_in, ring_placed, set_on}
pub use Rattle.event_rows.specs.CommandCompletions.Places.{AreSlots, FollowsPlaces, HasDone, HasWords, IsNextGiven, KeepsRest, succeeded_if}
unfoldable pub use Rattle.event_rows.specs.CommandCompletions.Places.{addressed, configured}
pub use Rattle.event_rows.specs.TransferEvents.NamedSpots.{IsNamedAt}
pub use Rattle.event_rows.specs.TransferEvents.Reported.{IsWithRecord, MayReport, reported}
pub use Rattle.event_rows.specs.declared.completions.placing.Placing.{Placing}
pub use Rattle.event_rows.specs.declared.transfers.spots.NamedSpot.{NamedSpot}
unfoldable pub use Rattle.ownership_rules.specs.Events.{is_code_of_profile}
unfoldable pub use Rattle.ring_knowledge.specs.Completions.{typed}
unfoldable pub use Rattle.ring_knowledge.specs.Rings.{code_told}
pub use Rattle.ring_knowledge.specs.declared.register_record.RegisterRecord.{RegisterRecord}
pub use Rattle.safety.proofs.DevicesKeep.AreaFacts.{area_parts}
pub use Rattle.safety.proofs.Posts.Areas.{bad_command_context}
pub use Rattle.safety.proofs.CommandsKeep.CommandsBeside.{Beside, binds_ring_beside}
pub use Rattle.safety.proofs.CommandsKeep.CommandsCompleted.{Changed, changed_by_code}
pub use Rattle.safety.proofs.CommandsKeep.CommandsFinished.{beside_finished, unfinished_before}
pub use Rattle.safety.proofs.DriverRings.{endpoints_of, rings_of}
pub use Rattle.safety.proofs.StatesKeep.EndpointHistories.{finish_elsewhere}
pub use Rattle.safety.proofs.HeaderRings.Headers.{ring_shape}
pub use Rattle.safety.proofs.RingsKeep.KeptRings.{CompletionFacts, by_completion, command_holds, next_at_floor, next_unfinished}
pub use Rattle.safety.proofs.NoHarm.NoWait.{ceiling_given}
pub use Rattle.safety.proofs.Targets.Placings.{still_places}
pub use Rattle.safety.proofs.NoHarm.SafeContext.{AtFloor, command_is_ring, named_if_taken}
pub use Rattle.safety.proofs.Rows.SameDriver.{completion_same}
pub use Rattle.safety.proofs.StatesKeep.StatesPlaced.{is_off_of, on_is}
pub use Rattle.safety.proofs.Behind.UnfinishedBehind.{listed_unfinished}
pub use Rattle.safety.proofs.Words.{Block, Bool, Change, Command, CommandKeeps, Config, ConfigureEndpoint, ContextSize, DeviceLeft, DisableSlot, Disables, DriverKeeps, EndpointState, Header, Holds, IsAhead, IsDriverRing, IsHeader, IsIn, IsSpot, IsTransferRing, IsUnfinished, Known, List, MayChange, MayChangeAll, MayPoint, None, Option, Places, Reaches, Ring, RingChange, RingKeeps, RingKind, RingSpot, RingView, Shape, SlotGoesOn, SlotState, Some, Spot, StopEndpoint, Stopped, [], after, and_parts, ap, arith, below_is, cases_Bool, cases_eq, ceiling_within, changed, code, command_of, cond-false, cond-true, cons_option, cycle, cycle_of, declared, device_context_bytes, endpoint, endpoint_meant, endpoint_success, eq-eqb, eqb-true, false, false≢true, filter_map, floor_number, fun_ext, get_or, get_or_from_slice_get, given_count_declared, if◌then◌else◌, inl, input_context_bytes, inr, is_command_kind, is_driver_kind, is_dropped, is_event, is_halting, is_off, is_slot_enabled, is_some, is_stop_of, is_success, is_transfer_code, is_transfer_kind, is_trb_error, kind, length, list_any, map, may_answer_slot, named_ahead, named_context, named_endpoint, named_slot, nat_lt, ne_eqb, none-some, not, number, option_and_then, option_map, or_parts, place_count, placed_by_context, pointer, position, put, range_with_len, refl, register_or_zero, rules, same_Some, slice_get, slice_get-get_or, slice_get_within, slot, slot_meant, slot_success, subst, suc, sym, target_ahead, true, zero, ℕ, ◌&&◌, ◌++◌, ◌+◌, ◌-◌, ◌<◌, ◌==◌, ◌^◌, ◌||◌, ◌∙◌, ◌∷◌, ◌≡◌, ◌≢◌, ◌≤◌, ◌⊎◌}
unfoldable pub use Rattle.safety.proofs.Words.{added_endpoints, binds_ring, bound_to, broken_off, can_finish, can_report, can_report_at, can_succeed, ceiling, changed_by, changed_by_all, changes, command_at, command_id, command_ring, completed, disabled, event_at, event_shape, event_size, finished, given_count, has_bad_context, held_at_ceiling, in_state, is_being_bound, is_data_below, is_impossible_completion, is_impossible_transfer, is_in_profile, is_past_room, is_stop_spot, is_stopping_now, is_working, may_be_taken, moved, moved_to, named, next_command, on_ring, passed, pointed, ring_having, set_to, shape_of, slots, spot_on, stop_ended, stopped_at, succeeded, target, transfer_read, transferred, transferred_at, unfinished, was_stop_seen}
pub use Rattle.segments.proofs.Search.{cases_option}
pub use Rattle.std.proofs.Common.{IfSome, le-ltb, lt-ltb, slice_set}
pub use Rattle.std.proofs.Math.ListN.{length-set}
pub use Rattle.std.proofs.lemmas.Bool.{OnTrue_from}
pub use Rattle.std.specs.Prelude.{nat_le, ◌%◌, ◌/◌}
pub use Rattle.trace_record.proofs.BoundRings.{any_in, binds_same, bound_same}
pub use Rattle.trace_record.proofs.CommandRing.{untaken}
pub use Rattle.trace_record.proofs.DeviceSlots.Steps.{follows_beside}
pub use Rattle.trace_record.proofs.DeviceSlots.TurnedOff.{none_below, one_more}
pub use Rattle.trace_record.proofs.DeviceSlots.UnfinishedEvents.{transfer_stays}
pub use Rattle.trace_record.proofs.DeviceSlots.UnfinishedFinished.{unfinished_completed}
pub use Rattle.trace_record.proofs.DeviceSlots.UnfinishedSame.{ring_elsewhere, ring_here, same_blocks, unfinished_same}
pub use Rattle.trace_record.proofs.GivenCommands.{next_is}
pub use Rattle.trace_record.proofs.RingFinder.CommandRings.{command_id_is, commands_among, driven, found_at, has_commands, read_at}
pub use Rattle.trace_record.proofs.RingFinder.FoundRings.{command_found, no_command_ring}
pub use Rattle.trace_record.proofs.RingFinder.HeaderRings.{no_command_here, ring_found}
pub use Rattle.trace_record.proofs.RingFinder.RingsApart.{numbers_apart}
pub use Rattle.trace_record.proofs.Words.{Apart, EventState, FollowsDevices, FollowsEvents, FollowsPlace, FollowsRegisters, FollowsRing, FollowsTrace, FollowsUnfinished, HoldsAreas, HoldsSoiled, IsAmong, RingRecord, among_at, device_contexts, find_some, inputs_of, nat_tests, none_here, shape_allowed, shape_there, together}
pub use Rattle.trace_record.specs.DeviceSlots.Endpoints.{named_by}
pub use Rattle.trace_record.specs.FollowsTrace.{HoldsBound}
pub use Rattle.trace_record.specs.Premises.{FitsMemory, IsSetUp}
pub use Rattle.trace_record.specs.RingCommands.{command_in}
pub use Rattle.trace_record.specs.RingFinder.RecordsOfRings.{FollowsRings}
pub use Rattle.trace_record.specs.RingSets.{has}
pub use Rattle.trace_record.specs.declared.device_record.disabling.Named.TheVariants.{Dropped}
pub use Rattle.trace_record.specs.declared.device_record.kept.DeviceRecord.{DeviceRecord}
pub use Rattle.trace_record.specs.declared.device_record.unfinished.UnfinishedCommands.{UnfinishedCommands}
pub use Rattle.trace_record.specs.declared.range_words.areas.Areas.{Areas}
pub use Rattle.trace_record.specs.declared.ring_set.RingSet.{RingSet}
pub use Rattle.trace_record.specs.declared.trace_record.TraceRecord.{TraceRecord}
pub use Rattle.trb.specs.CompletionCode.{is_of_service, is_stopping}
pub use Rattle.world_state.proofs.AddedEndpoints.{adds_end, adds_next}
pub use Rattle.world_state.proofs.PlacingCommands.{command_well}
pub use Rattle.world_state.specs.PlacingCommands.{HasRoom, IsWell, places_from}
