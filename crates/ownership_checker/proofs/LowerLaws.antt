-- Words and lemmas, passed on to the files above them
pub use Rattle.ownership_checker.proofs.JudgedRows.EventRows.{by_kind, by_place, event_step, impossible, left_out, left_out_possible, not_negated, noted_completion, noted_other, noted_transfer, of_completion, of_transfer, on_true, other_possible, when_true, within_profile}
pub use Rattle.ownership_checker.proofs.JudgedRows.Keeping.{contexts_fit, set_up}
pub use Rattle.ownership_checker.proofs.RingPasses.Broken.{coming_alone, going_alone, least_broken, none_broken, withdrawing_alone}
pub use Rattle.ownership_checker.proofs.RingPasses.Followed.{IsToldTo, bad_followed, opened_bad_told, opened_told, refused_followed, row_followed}
pub use Rattle.ownership_checker.proofs.RingPasses.FreeLeases.{count_is, found, moving, names_transfer, no_room, none_high, none_restored, restored_held, restored_transfer, runs_on, withdrawn_held, withdrawn_transfer}
pub use Rattle.ownership_checker.proofs.RingPasses.Histories.{breaks_no_rule, comes_free, driven_after, driven_free, driver_same, flips_none_restored, goes_free, header_driven, kept_now, known_driven, least_flips, least_left, least_off, least_restored, least_unflipped, no_rule_broken, nothing_free, only_left, stands_where_restored}
pub use Rattle.ownership_checker.proofs.RingPasses.RowsFit.{fits, row_fits}
pub use Rattle.ownership_checker.proofs.RingPasses.Verdicts.{none_refused, one_more, reversed_more, reversed_twice, row_refused}
pub use Rattle.ownership_checker.proofs.Streams.{as_many_ended, kept_whole, one_begun, opened_bad, sound_count, sound_so}
pub use Rattle.ownership_checker.proofs.Words.{AfterStop, All, All-cons, All-head, All-nil, All-tail, All-weaker, AreClean, AreKept, AreOpen, BadDoorbell, BadFree, BadRing, BadWithdraw, Begins, Bell, Bool, ContextsFit, DoNoHarm, DriverKeeps, EndsAt, Err, EventState, Evt, FollowsLeases, FollowsTrace, FreeRow, HasRead, HasRing, Header, HoldsAll, HoldsLents, IfBadLine, IfErr, IfOk, IfRefused, IsAmong, IsBadLine, IsBehindAll, IsCall, IsComing, IsFinder, IsHeader, IsInStep, IsKept, IsLeast, IsLeastFrom, IsLeastOfRow, IsNextRow, IsOpened, IsOwnedSo, IsPlaced, IsRingLogged, IsRingPassed, IsRingStep, IsRow, IsRowOf, IsRowStep, IsSameTrace, IsSetUp, IsStepFrom, IsToldBad, IsTraceRow, IsTracked, IsWholeLog, IsWithin, Known, Lease, LeaseCount, Lent, Line, LineFault, List, MayCome, Memory, MovesRing, NamesTransfer, None, NopRow, NothingFree, OfStream, OfTrace, Ok, OnOk, Option, RangeIndexes, Read, Refusal, Refused, RefusedBy, Reg, RegRead, Restores, Result, Ring, RingKind, RingPass, RingRow, RingsKeep, Row, RowPlace, RowReader, Some, StepFault, StreamFault, Sub, TraceRecord, WalksRead, Withdraws, WithdrawsAt, Write, [], add-zero, ahead_of, ap, append-nil, append_assoc, arith, broken_of, cases_Bool, clean_tests, coming_keeps, common_steps, cond-false, cond-true, drop, end_read, endpoints_of, err_from_is_err_and, false, false≢true, first_broken, first_broken-is, first_of, floor_number, found_moved, frees_badly, get_or, going_keeps, has_ended, has_ring, header_after, header_now, headline, id_below, if◌then◌else◌, in_step_now, inl, inr, is_bad_doorbell, is_bad_ring, is_driver_kind, is_ring_row, is_transfer_kind, kept_coming, kept_driver, kept_going, kept_withdrawing, known_now, learned_or_reset, length, length_from, lenient, lenient_row, lent_open, line_read_bad, lt-ltb, ltb, most_streamed_lines, none-some, not, nothing_broken, nothing_fits, nothing_keeps, nothing_kept, now_keeps, on_both, on_more, open_leases, opened_read, passed_on, placed_other, plain_now, progress_of, read_there, refl, reset_keeps, resets, restored, restored_keeps, restored_same, reverse, reverse-append, ring_with, rings_of, row_comes, row_keeps, row_numbered, row_read, rules, rung_now, shape_allowed, slice_get_read, slice_get_within, still_of, still_reads, stopped_still, subst, suc, sym, tables_fit, take, take-append-drop, text_of, trace_of, trace_verdict, true, walk_reads, with_rows, withdraw_keeps, withdrawn_now, without_ring, ℕ, ◌++◌, ◌+◌, ◌-◌, ◌<◌, ◌^◌, ◌∙◌, ◌∷◌, ◌≡◌, ◌≤◌}
unfoldable pub use Rattle.ownership_checker.proofs.Words.{broken, doorbell_tests, forgotten, gone, grown, is_bad_withdraw, is_left, learned, lenient_tests, lents, nothing, older, on_ring, reset, restored_on, ring_restored, some_flips, stricter, tests, unrestored, with_ring, withdraws_badly, without_end}
