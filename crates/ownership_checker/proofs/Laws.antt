-- What the answers cite: the words, and this crate's lemmas
pub use Rattle.ownership_checker.proofs.JudgedRows.Kinds.{declared_bad, declared_ok, placed_bad, placed_ok, register_bad, register_ok, register_read_bad, register_read_ok, row_bad, row_ok, stopped_refused, word_bad, word_ok}
pub use Rattle.ownership_checker.proofs.LowerLaws.{as_many_ended, by_kind, by_place, contexts_fit, count_is, driven_after, event_step, found, header_driven, impossible, kept_whole, known_driven, least_flips, least_left, least_off, least_restored, least_unflipped, left_out, left_out_possible, moving, names_transfer, no_room, none_high, none_restored, not_negated, noted_completion, noted_other, noted_transfer, of_completion, of_transfer, on_true, one_begun, only_left, opened_bad, opened_bad_told, other_possible, restored_held, restored_transfer, runs_on, set_up, sound_count, sound_so, when_true, withdrawn_held, withdrawn_transfer, within_profile}
pub use Rattle.ownership_checker.proofs.RingPasses.KeptRows.{begun, few, refused, row_more}
pub use Rattle.ownership_checker.proofs.RingPasses.Logged.{behind_logged, comes_clean, comes_logged, driven_logged, goes_clean, goes_logged, held_before, next_row, opened_before, rung_lents, transfer_drives}
pub use Rattle.ownership_checker.proofs.RingPasses.RowsRead.{IsReadOn, IsUnderway, all_read_on, bad_alone, bad_here, bad_read_on, bad_so, ended, ends_bad, ends_read, ends_so, fewer_left, fits_so, given, none_read_on, row_passed, row_read_on, underway, whole_so}
pub use Rattle.ownership_checker.proofs.RingPasses.Steps.{before_rows, comes_behind, comes_refused, driven_behind, goes_behind, goes_refused, least_quiet, none_now, quiet_behind, refused_too, restored_tracked, same_still, told_of, withdrawn_behind, withdrawn_refused}
pub use Rattle.ownership_checker.proofs.Words.{All-weaker, AreOpen, Bell, Bool, FollowsLeases, FreeRow, Header, HoldsAll, HoldsLents, IsHeader, IsLeast, IsNotPassed, IsPlaced, IsRingPassed, IsRowOf, IsTraceRow, IsTracked, IsWithin, Known, LeaseCount, List, MovesRing, NamesTransfer, None, NopRow, Option, Read, Refusal, Reg, RegRead, Restores, Ring, RingRow, Row, RowPlace, Some, Sub, Withdraws, WithdrawsAt, Write, [], ap, arith, err_from_is_err_and, false, false≢true, floor_number, found_moved, get_or, header_now, is_transfer_kind, kept_from, kept_withdrawing, known_now, learned_or_reset, length, length_from, lenient, lenient_row, lt-ltb, ltb, max, most_streamed_lines, not, on_both, on_more, open_leases, passed_on, placed_other, plain_now, read_there, refl, restored, reverse, ring_with, rules, slice_get_read, slice_get_within, subst, sym, text_of, trace_verdict, true, withdrawn_now, ℕ, ◌+◌, ◌-◌, ◌<◌, ◌^◌, ◌∙◌, ◌≡◌, ◌≤◌}
unfoldable pub use Rattle.ownership_checker.proofs.Words.{broken, is_bad_withdraw, is_left, lents, on_ring, restored_on, ring_restored, unrestored, without_end}
