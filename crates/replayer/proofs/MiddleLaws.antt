-- Words and lemmas, passed on to the files above them
pub use Rattle.replayer.proofs.LazySteps.NeedsOfRows.{needs_law, placed_need}
pub use Rattle.replayer.proofs.LazySteps.WalkedNotes.{first_notes, no_note, one_note, steps_with}
pub use Rattle.replayer.proofs.LowerLaws.{added_end, added_later, added_next, all_headers, all_made, all_prompt, all_zero, any_driven, both_ok, driven_noted, ended, ended_clean, failed_stop, few, filled_from, followed, from_here, from_none, full_is, further_in, harmful, has, has_placed, in_turn, kept_there, left, made_is, more_made, more_ok, next_there, no_further, no_look, no_ring, no_stop, none_filled, none_left, none_made, none_taken, not_there, nothing_more, of_address, of_configure, of_deconfigure, of_dequeue, of_others, on_any, on_more, one_behind, one_look, one_ring, other_header, other_rows, place_of, placed_off, placed_on, pointed_from, refused, rings_kept, room_is, rows_fit, rows_of_fit, some_command, some_taken, stands_at_floors, started, step_goes, step_is, step_is_none, step_is_some, step_isnt, step_sticks, step_unmade, stepped, stops_by_command, transfer_is, tried_full, tried_made, tried_stuck, turn_notes, turn_table, unmade, without_harm}
pub use Rattle.replayer.proofs.RowNotes.Notings.{alone, completed, completion_possible, completion_taken, first_halt, may_place, no_first_halt, none_said, notes_read, other_notes, placed_is, quiet, report_notes}
pub use Rattle.replayer.proofs.Schedules.HarmsFound.{does_harm, within_steps}
pub use Rattle.replayer.proofs.Schedules.Looking.{any_before, each_end, each_failed, each_more, halt_made, halt_unmade, late_end, late_failed, late_more, late_posted, late_unseen, look_end, look_failed, look_first, look_more, look_none, look_waited, none_before, not_read}
pub use Rattle.replayer.proofs.Schedules.Trying.{eager_end, eager_failed, last_failed, last_made, late_event, late_goes, late_last, late_nothing, made_lines, none_tried, read_told, row_made, row_unmade, told_none, where_none}
pub use Rattle.replayer.proofs.Words.{All, AreClean, AreKept, AreSteps, Begun, Bell, Block, BlockKind, Bool, Bor, Command, CommandCompletion, ContainsAll, Data, DoesHarm, Dropped, Err, FollowsTrace, HasMade, Header, IfOk, IfSome, IsCommandNumber, IsFinder, IsHeader, IsNamedAt, IsNoRead, IsRow, IsTable, IsTame, IsTimely, IsTraceRow, IsTransferRing, KeepHeaders, Known, List, Look, Made, Next, NextRow, NoHarm, None, NoneDoesHarm, Note, Option, Placed, Places, Read, RegRead, Register, Ring, RingSpot, Row, Running, Scene, Shape, Some, Spot, StandsAtFloors, StandsFor, Step, StepsLaw, Stopped, StopsByCommand, Succeeded, TransferEvent, View, [], all_are_read, ap, append-nil, append_assoc, arith, blocks_of_ring, cases_Bool, code, command_at, command_id_is, command_number, common_steps, context_cycle, context_pointer, driven_by, drop, drop_all, eq-eqb, eqb-true, err_from_is_err_and, event_facts, false, false≢true, few_steps, filter, filter_same, flat_map, fun_ext, get_or, has_commands, header_after, header_now, headline, if◌then◌else◌, is_command_completion, is_event_kind, is_off_of, is_some, is_stopping, is_success, kept_now, kind, known_after, known_now, lazy_steps_are, learned, length, length-replicate, lines_of, listed, map, nat_tests, ne_eqb, next_command, no_command_ring, none-some, none_refused, not, nothing_made, number, on_is, one_more, option_map, option_to_list, put, rank, read_at, refl, reverse, reverse-append, reverse-reverse, reversed_twice, rings_at, rules, said_well, same_Some, scene_before, shape_behind, shows, slice_get, slice_get-get_or, slice_get_within, slot, spot_in, step_made, subst, sym, take, trace_verdict, true, with_active, without_late, words_are, ℕ, ◌&&◌, ◌*◌, ◌++◌, ◌+◌, ◌-◌, ◌<◌, ◌==◌, ◌||◌, ◌∙◌, ◌∷◌, ◌≡◌, ◌≤◌}
unfoldable pub use Rattle.replayer.proofs.Words.{any_notes, brought, code_told, command_id, command_taken, completing_look, eager_row, eager_schedule, event_notes, filled, floor_note, goals, header_behind, if_open, is_placed, is_placed_by, judged, lazy_behind, lazy_run, lazy_steps, looks_to, made_before, made_post, made_step, made_steps, need, need_before, need_in, note_goals, note_steps, notes, open_goals, open_stopped, placed, placed_by, pointers_after, pointers_at, pointers_behind, pointers_for, post_of, read_notes, report_goals, reporting_look, restored_on, ring_placed, ring_restored, rings_added, row_notes, rows_behind, scene_ending_from, scene_replayed, scene_seen_by, scene_seen_from, spots_before, steps_before, steps_for, steps_of, stopped_goals, taken_up_to, transfer_notes, with_need}
