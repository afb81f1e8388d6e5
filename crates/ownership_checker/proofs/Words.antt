-- The words of std, of the crates below and of this crate's own definitions that its proofs cite, passed on by one file
pub use Rattle.commands.specs.Command.{command_by_kind, command_of, named_context}
pub use Rattle.commands.specs.declared.command.Command.{Command}
pub use Rattle.contexts.specs.Contexts.{input_context_bytes}
pub use Rattle.driver_rows.proofs.RingRows.GivenAt.{command_drives, gives_at, no_ring_moves, nothing_moves}
pub use Rattle.driver_rows.proofs.RingRows.Lists.{read_there}
pub use Rattle.driver_rows.specs.RingRows.GivenCommands.{GivesCommandAt}
pub use Rattle.driver_rows.specs.RingRows.RingSteps.{IsRingStep, IsTransferAt, frees_badly}
pub use Rattle.driver_rows.specs.RingRows.Withdrawing.{NamesTransfer}
pub use Rattle.event_ring.specs.EventPlaceValue.{EventState}
pub use Rattle.event_rows.proofs.TransferEvents.Reports.{left_out as left_out_transfer}
pub use Rattle.leases.proofs.LeaseBooks.FirstBook.{first_list}
pub use Rattle.leases.proofs.LeaseBooks.Growing.{leases_are}
pub use Rattle.leases.proofs.LeaseRows.EntriesFit.{nothing_fits, tables_fit}
pub use Rattle.leases.proofs.LeaseRows.OtherRows.{on_both, on_more}
pub use Rattle.leases.proofs.RingLeases.FoundFree.{found_moved, found_restored, found_withdrawn}
pub use Rattle.leases.proofs.RingLeases.FreeRows.{plain_now, rung_now, withdrawn_now}
pub use Rattle.leases.proofs.RingLeases.LentBehind.{in_step_now, lent_open}
pub use Rattle.leases.proofs.RingLeases.MovingRings.{was_given}
pub use Rattle.leases.proofs.RingLeases.NothingRestored.{restored_same}
pub use Rattle.leases.specs.LeaseBooks.Books.{FollowsLeases, HoldsLents}
pub use Rattle.leases.specs.LeaseBooks.InStep.{AreOpen, IsInStep}
pub use Rattle.leases.specs.LeaseBooks.Lents.{Lent, ended_where, lease_of, passed_on}
unfoldable pub use Rattle.leases.specs.LeaseBooks.Lents.{grown, lents, with_begun}
pub use Rattle.leases.specs.LeaseBooks.Ranges.{FindsRanges}
pub use Rattle.leases.specs.LeaseRows.CleanRows.{HoldsAll, IsNextRow}
pub use Rattle.leases.specs.RingLeases.Moving.{MovesRing}
pub use Rattle.leases.specs.declared.book.ranges.RangeIndexes.{RangeIndexes}
pub use Rattle.line_text.specs.Lines.{TextLine, lines_of}
pub use Rattle.ownership_checker.specs.Following.{EndsAt, IsToldBad, IsToldSoFar, told_behind, told_first, told_with}
unfoldable pub use Rattle.ownership_checker.specs.Following.{told_as_it_comes}
pub use Rattle.ownership_checker.specs.JudgedRows.Tracking.{IsLeastFrom, IsStepFrom, IsTracked}
pub use Rattle.ownership_checker.specs.RingPasses.Accepted.{IsSound, WalksRead}
pub use Rattle.ownership_checker.specs.RingPasses.Clean.{AreClean, IsLeastOfRow}
pub use Rattle.ownership_checker.specs.RingPasses.KeptRows.{IsBehindAll}
pub use Rattle.ownership_checker.specs.RingPasses.Passing.{IsRingLogged, IsRingPassed, NothingFree}
pub use Rattle.ownership_checker.specs.RingPasses.Reading.{Begins, IsWholeLog, OfTrace, with_rows}
pub use Rattle.ownership_checker.specs.declared.lease_count.LeaseCount.{LeaseCount}
pub use Rattle.ownership_checker.specs.declared.pass.ring_pass.RingPass.{RingPass}
pub use Rattle.ownership_rules.proofs.Among.{IsIn}
pub use Rattle.ownership_rules.specs.Areas.{is_bad_area}
unfoldable pub use Rattle.ownership_rules.specs.BadWithdrawals.{withdraws_badly}
unfoldable pub use Rattle.ownership_rules.specs.Commands.{has_bad_context, is_bad_command}
pub use Rattle.ownership_rules.specs.Doorbells.{is_bad_doorbell}
unfoldable pub use Rattle.ownership_rules.specs.Doorbells.{doorbell_tests}
pub use Rattle.ownership_rules.specs.Events.{is_impossible_completion, is_impossible_transfer, is_in_profile, is_past_room}
unfoldable pub use Rattle.ownership_rules.specs.Events.{event_tests, is_impossible, is_impossible_by_kind}
pub use Rattle.ownership_rules.specs.FirstBroken.{first_broken, first_of}
pub use Rattle.ownership_rules.specs.Leases.{leases as leases_of}
unfoldable pub use Rattle.ownership_rules.specs.Leases.{without_end}
pub use Rattle.ownership_rules.specs.LenientRules.{lenient}
unfoldable pub use Rattle.ownership_rules.specs.Older.{older, stricter}
pub use Rattle.ownership_rules.specs.OpenLeases.{Leased, open_leases}
pub use Rattle.ownership_rules.specs.Refusal.{broken_of}
pub use Rattle.ownership_rules.specs.Rings.{is_bad_ring, is_transfer_ring}
unfoldable pub use Rattle.ownership_rules.specs.Rings.{is_bad_free}
pub use Rattle.ownership_rules.specs.Rules.{broken_restored, row_broken, trace_verdict}
unfoldable pub use Rattle.ownership_rules.specs.Rules.{broken, first_or, lenient_tests, tests, verdict_from}
unfoldable pub use Rattle.ownership_rules.specs.Withdrawals.{is_bad_withdraw, is_left, some_flips}
pub use Rattle.ownership_rules.specs.declared.refusal.Refusal.{Refusal}
pub use Rattle.ownership_rules.specs.declared.refusal.Refusal.TheVariants.{AfterStop, BadDoorbell, BadFree, BadRing, BadWithdraw, ImpossibleEvent, NotInProfile, NotRestored, WriteToOwned}
pub use Rattle.ring_knowledge.proofs.WholeBelow.{kept_from}
pub use Rattle.ring_knowledge.specs.Completions.{completed}
pub use Rattle.ring_knowledge.specs.Histories.{header_now, known_after, known_now, restored}
unfoldable pub use Rattle.ring_knowledge.specs.Histories.{forgotten, gone, restored_on, ring_moved, ring_restored}
pub use Rattle.ring_knowledge.specs.Known.{Known}
unfoldable pub use Rattle.ring_knowledge.specs.Known.{nothing}
unfoldable pub use Rattle.ring_knowledge.specs.Learned.{event_read, learned}
pub use Rattle.ring_knowledge.specs.LearnedOrReset.{learned_or_reset}
pub use Rattle.ring_knowledge.specs.Resets.{resets}
unfoldable pub use Rattle.ring_knowledge.specs.Resets.{given_up, held_at_given, reset}
pub use Rattle.ring_knowledge.specs.RingRecords.{FollowsRing, IsNotPassed, positions_of}
pub use Rattle.ring_knowledge.specs.Rings.{unfinished}
unfoldable pub use Rattle.ring_knowledge.specs.Rings.{command_at, on_ring}
pub use Rattle.ring_knowledge.specs.Transfers.{transfer_read}
pub use Rattle.ring_knowledge.specs.declared.lease.Lease.{Lease}
pub use Rattle.ring_knowledge.specs.declared.ring_record.RingRecord.{RingRecord}
pub use Rattle.safety.proofs.DevicesKeep.AreaFacts.{area_parts}
pub use Rattle.safety.proofs.RingsKeep.CommandRing.{no_places}
pub use Rattle.safety.proofs.DriverHistories.{kept_driver}
pub use Rattle.safety.proofs.DriverRings.{endpoints_of, rings_of}
pub use Rattle.safety.proofs.RingsKeep.DriverRows.{nothing_keeps}
pub use Rattle.safety.proofs.HeaderRings.Headers.{command_named, ring_shape}
pub use Rattle.safety.proofs.RingsKeep.KeptRings.{still_of}
pub use Rattle.safety.proofs.HeaderRings.Lenient.{lenient_row}
pub use Rattle.safety.proofs.RunKeeps.NamesRing.{command_driver}
pub use Rattle.safety.proofs.RingsKeep.NothingFree.{free_same}
pub use Rattle.safety.proofs.NothingKept.{nothing_kept}
pub use Rattle.safety.proofs.ResetRuns.ResetKeeps.{reset_keeps}
pub use Rattle.safety.proofs.RingChanges.ComingGoing.{coming_keeps, going_keeps}
pub use Rattle.safety.proofs.RingChanges.Headline.{headline}
pub use Rattle.safety.proofs.RingChanges.KeptRings.{kept_coming, kept_going, kept_withdrawing}
pub use Rattle.safety.proofs.RingChanges.LiveHeadline.{now_keeps}
pub use Rattle.safety.proofs.RingChanges.Restored.{row_comes, row_keeps, row_keeps as restored_keeps, stopped_still}
pub use Rattle.safety.proofs.RingChanges.Withdrawn.{stopped_with, withdraw_keeps}
pub use Rattle.safety.proofs.HeaderRings.RingIds.{none_has_256}
pub use Rattle.safety.proofs.HeaderRings.RingsOfHeader.{HasRing, has_ring}
pub use Rattle.safety.proofs.Rows.SameDriver.{event_same}
pub use Rattle.safety.proofs.RingsKeep.StillPlacing.{still_reads}
pub use Rattle.safety.proofs.RingsKeep.TestsPassed.{AllFail, clean_tests, tests_fail}
pub use Rattle.safety.proofs.Behind.UnfinishedBehind.{listed_unfinished}
pub use Rattle.safety.proofs.Words.{no_flips}
pub use Rattle.safety.specs.Harmless.{DoNoHarm}
pub use Rattle.safety.specs.Keeps.{DriverKeeps, IsDriverRing, IsTransferRing}
pub use Rattle.safety.specs.Restoring.{MayCome}
pub use Rattle.safety.specs.RingChanges.Histories.{AreKept, IsKept}
pub use Rattle.safety.specs.RingsKeep.{RingsKeep}
pub use Rattle.segments.proofs.GivenCount.{given_count_most}
pub use Rattle.segments.proofs.Reaching.{given_count_declared}
pub use Rattle.segments.proofs.Search.{cases_option}
pub use Rattle.segments.proofs.WalkReads.{walk_reads}
pub use Rattle.segments.specs.Ceiling.{given_count}
pub use Rattle.segments.specs.Descriptors.{length_from}
pub use Rattle.segments.specs.Givings.{flips_passed}
unfoldable pub use Rattle.segments.specs.Givings.{descriptor_length, is_not_restored, unrestored}
pub use Rattle.segments.specs.Places.{cycle_of}
pub use Rattle.segments.specs.RingView.{Restores, RingView, Withdraws, Withdraws as WithdrawsAt, declared, due_positions, floor_number, positions_given}
pub use Rattle.segments.specs.ShapeValue.{Shape}
pub use Rattle.segments.specs.Spots.{number}
pub use Rattle.std.proofs.Common.{All, Bool, Err, List, None, Ok, Option, Result, Some, [], add-zero, ap, append-nil, append_assoc, arith, eqb-true, false, filter, get_or, inl, inr, length, lt-ltb, ltb, map, max, not, refl, rules, slice_get, slice_index, subst, suc, sym, true, zero, ℕ, ◌++◌, ◌+◌, ◌-◌, ◌<◌, ◌==◌, ◌^◌, ◌||◌, ◌∙◌, ◌∷◌, ◌≡◌, ◌≤◌}
pub use Rattle.std.proofs.KnownBytes.{Consumes-trans}
pub use Rattle.std.proofs.lemmas.Bool.{and_parts, cases_Bool, cond-false, cond-true, cond_both, false≢true, not-false, or_parts}
pub use Rattle.std.proofs.lemmas.Bool.Decides.{nat_tests}
pub use Rattle.std.proofs.lemmas.Grind.{common_steps}
pub use Rattle.std.proofs.lemmas.List.{length-append, length-map, reverse-append, take-append-drop}
pub use Rattle.std.proofs.lemmas.List.Elements.{All-cons, All-head, All-nil, All-tail, All-weaker}
pub use Rattle.std.proofs.lemmas.Option.{none-some, same_Some, slice_get_read, slice_get_within}
pub use Rattle.std.proofs.lemmas.Result.{err_from_is_err_and}
pub use Rattle.std.specs.Bool.{OnTrue}
pub use Rattle.std.specs.List.{list_any, position}
pub use Rattle.std.specs.Option.{SomeIff}
pub use Rattle.std.specs.Prelude.{IfErr, IfOk, OnOk, drop, if◌then◌else◌, is_some, option_map, reverse, take, ◌%◌, ◌&&◌}
pub use Rattle.trace_reader.proofs.Streaming.Calls.{call_of}
pub use Rattle.trace_reader.proofs.Streaming.CallsJoined.{calls_say_the_text, lines_left}
pub use Rattle.trace_reader.proofs.Streaming.LineEnds.{ended_if_read}
pub use Rattle.trace_reader.proofs.Streaming.RowsFit.{answer_fits}
pub use Rattle.trace_reader.proofs.Streaming.Streams.{end_read, line_read_bad, opened_read, row_numbered, row_read}
pub use Rattle.trace_reader.specs.Entries.{text_of}
pub use Rattle.trace_reader.specs.Reading.{State}
unfoldable pub use Rattle.trace_reader.specs.Reading.{trace_of}
pub use Rattle.trace_reader.specs.Streaming.Ahead.{OfLater, OfText, ahead_of}
pub use Rattle.trace_reader.specs.Streaming.Answers.{IsCall, has_ended}
pub use Rattle.trace_reader.specs.Streaming.ReaderState.{IsOpened, IsSameTrace, progress_of}
pub use Rattle.trace_reader.specs.Streaming.RowByRow.{Call, Progress}
unfoldable pub use Rattle.trace_reader.specs.Streaming.RowByRow.{next_row}
pub use Rattle.trace_reader.specs.Streaming.Streams.{HasRead, IfBadLine, IsBadLine, OfStream}
pub use Rattle.trace_reader.specs.Streaming.WholeTexts.{GivenRows, answered, joined_behind, rows_given}
pub use Rattle.trace_reader.specs.TraceOfText.{TraceText}
pub use Rattle.trace_reader.specs.declared.fault.LineFault.{LineFault}
pub use Rattle.trace_reader.specs.declared.row_reader.fault.StreamFault.{StreamFault}
pub use Rattle.trace_reader.specs.declared.row_reader.fault.StreamFault.TheVariants.{Device, Line}
pub use Rattle.trace_reader.specs.declared.row_reader.reader.RowReader.{RowReader}
pub use Rattle.trace_record.proofs.FirstBroken.{first_broken-is, nothing_broken}
pub use Rattle.trace_record.proofs.PlacedRows.{placed_other}
pub use Rattle.trace_record.proofs.RingFinder.FoundRings.{command_found}
pub use Rattle.trace_record.proofs.RingFinder.HeaderRings.{id_below, ring_found, shape_allowed, shape_there}
pub use Rattle.trace_record.proofs.RingFinder.RingsApart.{IsAmong, among_at}
pub use Rattle.trace_record.specs.FollowsTrace.{FollowsTrace}
pub use Rattle.trace_record.specs.Fresh.{IsWithin}
pub use Rattle.trace_record.specs.Premises.{CommandsDeclared, ContextsFit, FitsMemory, IsSetUp}
pub use Rattle.trace_record.specs.RingFinder.Finding.{IsFinder}
pub use Rattle.trace_record.specs.RowPlaces.{IsOwnedSo, IsPlaced}
pub use Rattle.trace_record.specs.Steps.{IfRefused, IsLeast, IsRowStep}
pub use Rattle.trace_record.specs.declared.fault.StepFault.{StepFault}
pub use Rattle.trace_record.specs.declared.fault.StepFault.TheVariants.{Memory, Refused, Refused as RefusedBy}
pub use Rattle.trace_record.specs.declared.row_place.RowPlace.{RowPlace}
pub use Rattle.trace_record.specs.declared.trace_record.TraceRecord.{TraceRecord}
pub use Rattle.traces.specs.AllowedHeaders.{IsHeader}
pub use Rattle.traces.specs.Header.{command_ring, event_ring, id_of, id_or_none, is_driver_kind, is_ring, is_transfer_kind, no_id, ring_with, shape_of}
unfoldable pub use Rattle.traces.specs.Header.{command_id, event_shape, event_size}
pub use Rattle.traces.specs.Limits.{most_streamed_lines}
pub use Rattle.traces.specs.LivingRings.{header_after, without_ring}
unfoldable pub use Rattle.traces.specs.LivingRings.{with_ring}
pub use Rattle.traces.specs.Rows.{IsComing, IsRow, is_ring_row}
pub use Rattle.traces.specs.TraceRows.{IsRowOf, IsTraceRow}
pub use Rattle.traces.specs.declared.header.Header.{Header}
pub use Rattle.traces.specs.declared.ring.Ring.{Ring}
pub use Rattle.traces.specs.declared.row.Row.{Row}
pub use Rattle.traces.specs.declared.row.Row.TheVariants.{Bell, Free as FreeRow, Nop as NopRow, Read, Reg, RegRead, Ring as RingRow, Sub, Write}
pub use Rattle.trb.specs.Block.{aligned, cycle, kind, pointer}
pub use Rattle.trb.specs.Descriptor.{is_command_left_out}
pub use Rattle.trb.specs.Kind.{is_event, is_transfer_event}
pub use Rattle.trb.specs.declared.block.Block.{Block}
pub use Rattle.trb.specs.declared.kind.BlockKind.{BlockKind}
pub use Rattle.trb.specs.declared.kind.BlockKind.TheVariants.{CommandCompletion, TransferEvent}
pub use Rattle.trb.specs.declared.ring_kind.RingKind.{RingKind}
pub use Rattle.trb.specs.declared.ring_kind.RingKind.TheVariants.{Evt}
