-- Words and lemmas, passed on to the files above them
pub use Rattle.replayer.proofs.LazySteps.Filling.{all_zero, filled_from, none_filled, turn_notes, turn_table}
pub use Rattle.replayer.proofs.LazySteps.PlacedRings.{has, has_listed, has_placed}
pub use Rattle.replayer.proofs.LazySteps.PointerTables.{further_in, no_further, none_taken, some_taken}
pub use Rattle.replayer.proofs.LazySteps.RingShapes.{no_ring, one_ring}
pub use Rattle.replayer.proofs.LazySteps.RowsToCome.{other_header, other_rows}
pub use Rattle.replayer.proofs.LazySteps.Walks.{no_look, one_look}
pub use Rattle.replayer.proofs.RowNotes.Kept.{kept_there, next_there, not_there, some_command, stops_by_command}
pub use Rattle.replayer.proofs.RowNotes.Lists.{both_ok, from_none, in_turn, more_ok, none_left, nothing_more, on_more, one_behind}
pub use Rattle.replayer.proofs.RowNotes.Looks.{failed_stop, no_stop, place_of, transfer_is}
pub use Rattle.replayer.proofs.RowNotes.Placings.{added_end, added_later, added_next, of_address, of_configure, of_deconfigure, of_dequeue, of_others, placed_off, placed_on, placed_transfer, pointed_from}
pub use Rattle.replayer.proofs.Runs.{from_here, harmful, step_goes, step_sticks}
pub use Rattle.replayer.proofs.Schedules.Fitting.{all_headers, rows_fit, rows_of_fit}
pub use Rattle.replayer.proofs.Schedules.Floors.{stands_at_floors}
pub use Rattle.replayer.proofs.Schedules.Making.{all_made, full_is, left, made_is, made_of, more_made, none_made, room_is, step_is, step_is_none, step_is_some, step_isnt, step_unmade, tried_full, tried_made, tried_stuck, unmade}
pub use Rattle.replayer.proofs.Schedules.Noting.{any_driven, driven_noted, ended, ended_clean, few, followed, on_any, refused, started, stepped}
pub use Rattle.replayer.proofs.Schedules.Replays.{turned, without_harm}
pub use Rattle.replayer.proofs.Schedules.RingLists.{all_prompt, rings_kept}
pub use Rattle.replayer.proofs.Words.{All, All-append, All-cons, All-nil, All-same, AreClean, AreKept, AreNoted, AreSteps, Asked, Begun, Bell, Block, BlockKind, Bool, Bor, Command, CommandCompletion, CompletionFacts, ContainsAll, Data, DoesHarm, DriverKeeps, Dropped, Err, Finish, FollowsTrace, Halt, Harm, Harmful, HasMade, Header, IfErr, IfNone, IfOk, IfSome, IsCommandNumber, IsFinder, IsHeader, IsMade, IsNamedAt, IsNoRead, IsRow, IsTable, IsTame, IsTimely, IsTraceRow, IsTransferRing, KeepHeaders, Known, List, Look, Made, Making, MayPlace, Memory, NeedsLaw, Next, NextRow, NoHarm, None, NoneDoesHarm, Note, Ok, Option, Other, Placed, Places, Read, RegRead, Register, Report, Result, Ring, RingSpot, Row, Running, Scene, Schedule, Search, Seen, Shape, Some, Spot, StandsAtFloors, StandsFor, Step, StepsLaw, Stopped, StopsByCommand, Succeeded, TransferEvent, Unmade, Usbsts, View, [], all_are_read, ap, append-nil, append_assoc, arith, behind_look, blocks_of_ring, by_completion, cases_Bool, ceiling, code, command_at, command_holds, command_id_is, command_number, common_steps, context_cycle, context_pointer, driven_by, drop, drop_all, eq-eqb, eqb-true, err_from_is_err_and, event_at, event_facts, false, false≢true, few_steps, filter, filter_same, flat_map, fun_ext, get_or, halted_bit, harm_of, has_commands, has_room, header_after, header_now, headline, if◌then◌else◌, is_asked, is_command_completion, is_command_kind, is_done, is_event_kind, is_impossible_completion, is_off_of, is_some, is_stopping, is_success, is_transfer_event, is_waited, kept_now, kind, known_after, known_now, lazy_steps_are, le-leb, learned, length, length-replicate, lenient, lines_of, listed, looked_at_last, lt-leb, lt-ltb, map, max, nat_lt, nat_tests, ne_eqb, next_command, next_unfinished, no_command_ring, none-some, none_refused, not, nothing_made, number, on_is, one_more, option_and_then, option_map, option_to_list, put, rank, read_at, refl, replicate, reverse, reverse-append, reverse-reverse, reversed_twice, rings_at, rings_of, rows_made, rules, said_well, same_Some, scene_before, scene_reached, shape_behind, shows, slice_get, slice_get-get_or, slice_get_within, slot, spot_in, step_made, subst, suc, sym, take, tells_halt, trace_verdict, true, unless_possible, with_active, without_late, words_are, zero, ℕ, ◌&&◌, ◌*◌, ◌++◌, ◌+◌, ◌-◌, ◌<◌, ◌==◌, ◌||◌, ◌∙◌, ◌∷◌, ◌≡◌, ◌≤◌}
unfoldable pub use Rattle.replayer.proofs.Words.{any_notes, begins_anew, brought, code_told, command_id, command_taken, completing_look, eager_row, eager_rows, eager_schedule, ends_need, event_notes, filled, floor_note, goals, header_behind, if_open, is_impossible_by_kind, is_placed, is_placed_by, judged, late_schedules, lazy_behind, lazy_run, lazy_steps, looked_at, looked_at_each, looks_to, made_before, made_behind_looks, made_looks, made_post, made_step, made_steps, need, need_before, need_in, note_goals, note_steps, notes, number_behind, number_reported, open_goals, open_stopped, placed, placed_by, pointers_after, pointers_at, pointers_behind, pointers_for, post_of, read_notes, report_goals, reporting_look, restored_on, ring_placed, ring_restored, rings_added, row_notes, rows_behind, scene_ending_from, scene_replayed, scene_seen_by, scene_seen_from, shape_of, spots_before, steps_before, steps_for, steps_of, stopped_goals, taken_up_to, transfer_notes, tried_step, with_need}
