-- The words of std, of the crates below and of this crate's own definitions that its proofs cite, passed on by one file
pub use Rattle.commands.specs.Changes.{Places, placed_by_context}
unfoldable pub use Rattle.commands.specs.Changes.{changes}
pub use Rattle.commands.specs.States.{is_off}
pub use Rattle.commands.specs.declared.command.Command.{Command}
pub use Rattle.commands.specs.declared.command.Command.TheVariants.{AddressDevice, ConfigureEndpoint, SetTrDequeue, StopEndpoint}
pub use Rattle.commands.specs.declared.state.EndpointState.{EndpointState}
pub use Rattle.commands.specs.declared.state.EndpointState.TheVariants.{Running, Stopped}
pub use Rattle.contexts.specs.Contexts.{context_cycle, context_pointer, input_add_flag}
unfoldable pub use Rattle.contexts.specs.Contexts.{added_endpoints}
pub use Rattle.contexts.specs.View.{View}
pub use Rattle.contexts.specs.declared.size.ContextSize.{ContextSize}
pub use Rattle.controller_model.proofs.RingRowLemmas.{none_dropped, nothing_listed, one_dropped, without_is}
pub use Rattle.controller_model.specs.Following.{IsStep}
unfoldable pub use Rattle.controller_model.specs.Showing.{scene_replayed, scene_seen_by, scene_seen_from, shows}
pub use Rattle.controller_model.specs.Worlds.{StandsFor}
pub use Rattle.controller_model.specs.declared.fault.StepFault.TheVariants.{NotPossible}
pub use Rattle.controller_model.specs.declared.seen.Seen.{Seen}
pub use Rattle.driver_rows.proofs.DoorbellRows.Followed.{found_at, none_found}
pub use Rattle.event_rows.proofs.CommandCompletions.Ends.{said_well}
pub use Rattle.event_rows.proofs.CommandCompletions.Finished.{has_room}
pub use Rattle.event_rows.proofs.CommandCompletions.Succeeded.{words_are}
pub use Rattle.event_rows.proofs.TransferEvents.Reports.{driven}
pub use Rattle.event_rows.specs.TransferEvents.NamedSpots.{IsNamedAt}
pub use Rattle.ownership_checker.proofs.JudgedRows.Kinds.{driven_by}
pub use Rattle.ownership_checker.proofs.RingPasses.Histories.{header_driven, kept_now}
pub use Rattle.ownership_checker.proofs.RingPasses.Verdicts.{none_refused, reversed_twice, row_refused}
pub use Rattle.ownership_checker.specs.RingPasses.Clean.{AreClean, IsLeastOfRow}
pub use Rattle.ownership_checker.specs.RingPasses.Passing.{IsRingPassed}
pub use Rattle.ownership_checker.specs.declared.pass.ring_pass.RingPass.{RingPass}
unfoldable pub use Rattle.ownership_rules.specs.Events.{is_impossible_by_kind, is_impossible_completion}
unfoldable pub use Rattle.ownership_rules.specs.LenientRules.{lenient}
unfoldable pub use Rattle.ownership_rules.specs.Moves.{binding_in, binds, has_repeats, is_among, ring_bound}
pub use Rattle.ownership_rules.specs.Rules.{trace_verdict}
pub use Rattle.ownership_rules.specs.declared.refusal.Refusal.{Refusal}
pub use Rattle.replayer.specs.LazySteps.Headers.{KeepHeaders}
pub use Rattle.replayer.specs.LazySteps.Law.{NeedsLaw, StepsLaw}
pub use Rattle.replayer.specs.LazySteps.Notes.{listed}
unfoldable pub use Rattle.replayer.specs.LazySteps.Notes.{any_notes, completing_look, event_notes, floor_note, if_open, notes, open_stopped, placed, placed_by, placed_by_all, read_notes, reporting_look, row_notes, transfer_notes}
unfoldable pub use Rattle.replayer.specs.LazySteps.Passes.{filled, header_behind, need_before, need_in, note_goals, note_steps, pointers_behind, rows_behind, steps_of, with_need}
pub use Rattle.replayer.specs.LazySteps.Shapes.{shape_behind}
pub use Rattle.replayer.specs.LazySteps.Tables.{IsTable, spot_in}
pub use Rattle.replayer.specs.RowNotes.Added.{MayPlace}
unfoldable pub use Rattle.replayer.specs.RowNotes.Added.{rings_added}
pub use Rattle.replayer.specs.RowNotes.Noted.{AreNoted, MayBeRead, StopsByCommand}
pub use Rattle.replayer.specs.Schedules.Attempts.{HasMade}
pub use Rattle.replayer.specs.Schedules.Eager.{is_late, lines_of, looked_at_last, nothing_made, without_late}
unfoldable pub use Rattle.replayer.specs.Schedules.Eager.{eager_row, eager_rows, eager_schedule, late_schedules}
pub use Rattle.replayer.specs.Schedules.Floors.{StandsAtFloors}
pub use Rattle.replayer.specs.Schedules.Harmful.{DoesHarm, rows_made}
pub use Rattle.replayer.specs.Schedules.Making.{IsMade, Making, behind_look, behind_step, blocks_of_ring, if_possible, is_full, is_waited, rings_at, tells_halt, unless_possible, with_active}
unfoldable pub use Rattle.replayer.specs.Schedules.Making.{looked_at, looked_at_each, made_before, made_behind_looks, made_looks, made_post, made_step, made_steps, tried_step}
pub use Rattle.replayer.specs.Schedules.Tried.{IsNoRead, IsTame, NoneDoesHarm}
unfoldable pub use Rattle.replayer.specs.Schedules.Tried.{lazy_behind}
pub use Rattle.replayer.specs.declared.lazy_steps.note.Note.{Note}
pub use Rattle.replayer.specs.declared.lazy_steps.note.Note.TheVariants.{Begun, Made, Next, Placed, Succeeded}
pub use Rattle.replayer.specs.declared.row_notes.rings.CommandPlace.{CommandPlace}
pub use Rattle.replayer.specs.declared.scheduler.attempt.Unmade.{Unmade}
pub use Rattle.replayer.specs.declared.scheduler.attempt.Unmade.TheVariants.{Dropped, Memory}
pub use Rattle.replayer.specs.declared.scheduler.harmful.Search.{Search}
pub use Rattle.ring_knowledge.specs.Histories.{header_now, known_after, known_now}
unfoldable pub use Rattle.ring_knowledge.specs.Histories.{forgotten, gone, restored_on, ring_restored}
pub use Rattle.ring_knowledge.specs.Known.{Known}
unfoldable pub use Rattle.ring_knowledge.specs.Known.{nothing}
unfoldable pub use Rattle.ring_knowledge.specs.Learned.{learned}
unfoldable pub use Rattle.ring_knowledge.specs.Resets.{behind_blocks}
pub use Rattle.ring_knowledge.specs.RingRecords.{FollowsRing}
unfoldable pub use Rattle.ring_knowledge.specs.Rings.{code_told, command_at, event_at, next_command}
pub use Rattle.ring_knowledge.specs.declared.ring_record.RingRecord.{RingRecord}
pub use Rattle.safety.proofs.Rows.CleanRows.{event_facts}
pub use Rattle.safety.proofs.DriverRings.{endpoints_of, rings_of, transfer_ring}
pub use Rattle.safety.proofs.StatesKeep.Endpoints.{change_keeps}
pub use Rattle.safety.proofs.HeaderRings.Headers.{header_parts}
pub use Rattle.safety.proofs.RingsKeep.KeptRings.{CompletionFacts, by_completion, command_holds, next_unfinished}
pub use Rattle.safety.proofs.LazyRuns.Induction.{kept_on, later_kept, one_more}
pub use Rattle.safety.proofs.LazyRuns.LazySteps.{lazy_steps_are}
pub use Rattle.safety.proofs.LazyRuns.StepsCounted.{few_steps}
pub use Rattle.safety.proofs.LazyRuns.TransferFacts.{stopping_taken, transfer_facts}
pub use Rattle.safety.proofs.LazyRuns.WholeRuns.{all_are_read, lazy_law}
pub use Rattle.safety.proofs.Targets.Placings.{ReadyAt, all_ready, dropped, map_map, ready_next, ring_at}
pub use Rattle.safety.proofs.RingChanges.Headline.{headline}
pub use Rattle.safety.proofs.RingChanges.KeptRings.{kept_coming, kept_going}
pub use Rattle.safety.proofs.RingChanges.LiveHeadline.{now_keeps}
pub use Rattle.safety.proofs.HeaderRings.RingIds.{having_transfer, none_has_256}
pub use Rattle.safety.proofs.NoHarm.SafeContext.{command_is_ring, named_if_taken, next_is}
pub use Rattle.safety.proofs.StatesKeep.StatesPlaced.{is_off_of, on_is}
pub use Rattle.safety.proofs.RingsKeep.TestsPassed.{any_of_map, each_fails}
pub use Rattle.safety.proofs.Words.{Change, Data, Link, Look, NextRow, RingSpot, Shape, Spot, Step, Xfer, cases_Bool, drop_all, false≢true, flat_map, fun_ext, is_command_completion, is_crossing, is_ring, is_success, is_transfer_event, list_any, list_any-append, ltb-true, number, put, rank, reverse-append, shape_or}
unfoldable pub use Rattle.safety.proofs.Words.{changed_by}
pub use Rattle.safety.specs.EndpointsKeep.{EndpointsKeep}
pub use Rattle.safety.specs.Harmless.{DoNoHarm}
pub use Rattle.safety.specs.Keeps.{DriverKeeps, IsTransferRing}
pub use Rattle.safety.specs.LazyRuns.LateEvents.{IsTimely}
pub use Rattle.safety.specs.LazyRuns.Law.{ContainsAll}
unfoldable pub use Rattle.safety.specs.LazyRuns.Lazy.{brought, command_taken, further, goals, lazy_run, lazy_steps, looks_to, open_goals, pointers_after, pointers_at, pointers_for, post_of, report_goals, spots_before, steps_before, steps_for, stop_goal, stopped_goals, taken_up_to}
unfoldable pub use Rattle.safety.specs.LazyRuns.Needs.{begins_anew, ends_need, is_placed, is_placed_by, is_placed_by_all, need, number_behind, number_reported, ring_placed}
pub use Rattle.safety.specs.Placings.{StillHolds}
pub use Rattle.safety.specs.RingChanges.Histories.{AreKept, IsKept}
pub use Rattle.safety.specs.RingsKeep.{RingsKeep}
pub use Rattle.segments.proofs.Words.{nat_tests, next, position_or_len, spots_from, take_more}
pub use Rattle.segments.specs.Ceiling.{ceiling}
pub use Rattle.segments.specs.RingView.{floor_number}
pub use Rattle.std.proofs.Common.{Bool, Bor, Err, IfSome, List, None, Ok, Option, Result, Some, [], add-one, ap, append-nil, append_assoc, arith, drop, drop-cons, eq-eqb, false, filter, get_or, get_or-set_other, get_or-set_same, get_or-take, if◌then◌else◌, inl, inr, is_some, le-leb, length, length-take-le, lt-ltb, map, max, nat_lt, not, option_map, option_to_list, position, refl, replicate, rules, slice_get, slice_index, subst, suc, sym, take_all, true, zero, ℕ, ◌&&◌, ◌*◌, ◌++◌, ◌+◌, ◌-◌, ◌<◌, ◌==◌, ◌||◌, ◌∙◌, ◌∷◌, ◌≡◌, ◌≤◌}
pub use Rattle.std.proofs.Math.Bool.{or-false}
pub use Rattle.std.proofs.Math.ListN.{get_or-append, set}
pub use Rattle.std.proofs.Math.Seq.{set-append_seam}
pub use Rattle.std.proofs.lemmas.Bool.{cond-false, cond-true, cond_both, eqb-true, lt-leb, ne_eqb, or_parts}
pub use Rattle.std.proofs.lemmas.Fn.{filter_same}
pub use Rattle.std.proofs.lemmas.Grind.{common_steps}
pub use Rattle.std.proofs.lemmas.List.{get_or-replicate, length-replicate, reverse-reverse}
pub use Rattle.std.proofs.lemmas.List.Edits.{length-remove}
pub use Rattle.std.proofs.lemmas.List.Elements.{All-append, All-cons, All-head, All-nil, All-same, All-tail, All-weaker}
pub use Rattle.std.proofs.lemmas.List.Folds.{find_at}
pub use Rattle.std.proofs.lemmas.Option.{none-some, same_Some, slice_get-get_or, slice_get_within}
pub use Rattle.std.proofs.lemmas.Result.{err_from_is_err_and}
pub use Rattle.std.specs.List.{cons_option, filter_map, range_with_len, remove}
pub use Rattle.std.specs.Prelude.{All, IfErr, IfNone, IfOk, OnOk, option_and_then, reverse, take}
pub use Rattle.trace_record.proofs.RingFinder.CommandRings.{IsCommandNumber, command_id_is, command_number, has_commands, read_at}
pub use Rattle.trace_record.proofs.RingFinder.FoundRings.{no_command_ring, none_here, ring_here}
pub use Rattle.trace_record.proofs.RingFinder.HeaderRings.{find_some, not_found, ring_found}
pub use Rattle.trace_record.proofs.RingFinder.RingsApart.{among_at}
pub use Rattle.trace_record.specs.FollowsTrace.{FollowsTrace}
pub use Rattle.trace_record.specs.RingFinder.Finding.{IsFinder}
pub use Rattle.trace_record.specs.RingFinder.RecordsOfRings.{FollowsRings}
pub use Rattle.trace_record.specs.declared.trace_record.TraceRecord.{TraceRecord}
pub use Rattle.traces.specs.AllowedHeaders.{IsHeader, may_stand_together}
pub use Rattle.traces.specs.Halts.{is_asked, is_done}
pub use Rattle.traces.specs.Header.{is_command_kind, is_event_kind, is_transfer_kind, no_shape, ring_with}
unfoldable pub use Rattle.traces.specs.Header.{command_id, command_ring, ring_having, shape_of}
pub use Rattle.traces.specs.Limits.{most_lines, most_streamed_lines}
pub use Rattle.traces.specs.LivingRings.{header_after}
unfoldable pub use Rattle.traces.specs.LivingRings.{with_ring, without_ring}
pub use Rattle.traces.specs.Register.{halted_bit}
pub use Rattle.traces.specs.Rows.{AreSteps, IsRow, is_ring_row}
pub use Rattle.traces.specs.TraceRows.{AreRowsOf, IsRowOf, IsTraceRow}
pub use Rattle.traces.specs.Versions.{has_isoch}
pub use Rattle.traces.specs.declared.halt.Halt.TheVariants.{Asked}
pub use Rattle.traces.specs.declared.header.Header.{Header}
pub use Rattle.traces.specs.declared.register.Register.{Register}
pub use Rattle.traces.specs.declared.register.Register.TheVariants.{Usbsts}
pub use Rattle.traces.specs.declared.ring.Ring.{Ring}
pub use Rattle.traces.specs.declared.row.Row.{Row}
pub use Rattle.traces.specs.declared.row.Row.TheVariants.{Bell, Free as FreeRow, Read, RegRead, Ring as RingRow}
pub use Rattle.traces.specs.declared.schedule.Schedule.{Schedule}
pub use Rattle.traces.specs.declared.step.Step.TheVariants.{Finish, Halt, Other, Report}
pub use Rattle.traces.specs.declared.version.Version.{Version}
pub use Rattle.trb.specs.Block.{code, endpoint, kind, slot}
pub use Rattle.trb.specs.CompletionCode.{counted_code, is_of_service, is_stopping}
pub use Rattle.trb.specs.declared.block.Block.{Block}
pub use Rattle.trb.specs.declared.kind.BlockKind.{BlockKind}
pub use Rattle.trb.specs.declared.kind.BlockKind.TheVariants.{CommandCompletion, TransferEvent}
unfoldable pub use Rattle.world_state.specs.Harms.{harm_of}
pub use Rattle.world_state.specs.Replays.{Harmful, Harmful as HarmfulAt, NoHarm}
unfoldable pub use Rattle.world_state.specs.Replays.{judged, scene_ending_from}
pub use Rattle.world_state.specs.Scenes.{Scene, scene_before, scene_reached, step_made}
pub use Rattle.world_state.specs.declared.harm.Harm.{Harm}
