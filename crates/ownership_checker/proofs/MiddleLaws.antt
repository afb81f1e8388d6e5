-- Words and lemmas, passed on to the files above them
pub use Rattle.ownership_checker.proofs.JudgedRows.EventRows.{by_kind, by_place, event_step, impossible, is_started, left_out, left_out_possible, not_negated, noted_completion, noted_other, noted_transfer, of_completion, of_transfer, on_true, other_possible, when_true, within_profile}
pub use Rattle.ownership_checker.proofs.JudgedRows.Kinds.{declared_bad, declared_ok, placed_bad, placed_ok, register_bad, register_ok, row_bad, row_ok, stopped_refused, word_bad, word_ok}
pub use Rattle.ownership_checker.proofs.LowerLaws.{IsToldTo, as_many_ended, bad_followed, contexts_fit, count_is, driven_after, fits, found, header_driven, kept_whole, known_driven, least_flips, least_left, least_off, least_restored, least_unflipped, moving, names_transfer, no_room, none_high, none_refused, none_restored, one_begun, one_more, only_left, opened_bad, opened_bad_told, opened_told, refused_followed, restored_held, restored_transfer, reversed_more, reversed_twice, row_fits, row_followed, row_refused, runs_on, set_up, sound_count, sound_so, withdrawn_held, withdrawn_transfer}
pub use Rattle.ownership_checker.proofs.RingPasses.Steps.{all_reversed, before_rows, comes_behind, comes_refused, driven_behind, goes_behind, goes_refused, headed_now, least_quiet, no_harm, none_now, quiet_behind, refused_too, restored_tracked, same_still, told_of, tracked_now, withdrawn_behind, withdrawn_refused}
pub use Rattle.ownership_checker.proofs.RingPasses.Walks.{walks}
pub use Rattle.ownership_checker.proofs.Words.{All, All-cons, All-nil, All-weaker, AreOpen, Begins, Bell, Bool, DoNoHarm, EndsAt, Err, FindsRanges, FollowsLeases, FreeRow, HasRead, Header, HoldsAll, HoldsLents, IfBadLine, IfRefused, IsAmong, IsBadLine, IsBehindAll, IsCall, IsComing, IsHeader, IsInStep, IsLeast, IsLeastOfRow, IsNextRow, IsOpened, IsPlaced, IsRingLogged, IsRingPassed, IsRow, IsRowOf, IsSameTrace, IsToldBad, IsTraceRow, IsTracked, IsWholeLog, IsWithin, Known, Lease, LeaseCount, Lent, Line, LineFault, List, MovesRing, NamesTransfer, None, NopRow, OfStream, OfTrace, Ok, Option, RangeIndexes, Read, Refusal, Refused, RefusedBy, Reg, Restores, Result, Ring, RingKind, RingPass, RingRow, Row, RowPlace, RowReader, Some, StepFault, StreamFault, Sub, Withdraws, WithdrawsAt, Write, [], add-zero, ahead_of, among_at, ap, append-nil, append_assoc, arith, clean_tests, common_steps, drop, end_read, eqb-true, err_from_is_err_and, false, false≢true, floor_number, found_moved, get_or, has_ended, header_after, header_now, in_step_now, is_bad_ring, is_driver_kind, is_ring_row, is_transfer_kind, is_transfer_ring, kept_coming, kept_going, kept_withdrawing, known_now, length, length_from, lenient, lenient_row, lent_open, line_read_bad, lt-ltb, ltb, map, most_streamed_lines, none-some, not, on_both, on_more, open_leases, opened_read, or_parts, passed_on, placed_other, plain_now, position, progress_of, read_there, refl, restored, reverse, ring_found, ring_with, row_numbered, row_read, rules, rung_now, shape_there, slice_get_read, slice_get_within, subst, sym, take, text_of, trace_of, trace_verdict, true, with_rows, withdrawn_now, without_ring, ℕ, ◌++◌, ◌+◌, ◌-◌, ◌<◌, ◌==◌, ◌^◌, ◌∙◌, ◌∷◌, ◌≡◌, ◌≤◌}
unfoldable pub use Rattle.ownership_checker.proofs.Words.{broken, grown, is_bad_free, is_bad_withdraw, is_left, learned, lents, on_ring, restored_on, ring_restored, unrestored, with_ring, without_end}
