-- Words and lemmas, passed on to the files above them
pub use Rattle.trace_reader.proofs.MiddleLaws.{AllSound, AreLeft, AreLines, AreSpelled, FitsRing, IsCut, IsGood, IsSaid, IsSpelling, added, all_with, alone, are_same_bytes, at_start, bad_line_there, behind, bell_says, block_length, block_sound, blocks_length, blocks_sound, blocks_within, clashes, come_behind, content_faulty, content_whole, cut, digits_32, digits_64, digits_8, dropped, eight_digits, ended, ended_behind, ended_left, ended_lines, event_says, faulted, header_there, kept, last_met, line_entry, line_error, line_of, line_read, line_spells, lines_ended, lines_read, lines_spell, lowered, moved, no_ring_taken, no_second, no_size, no_text, no_version, no_word, none_met, none_overlapped, not_limited, nothing_before, nothing_behind, one_less, one_line_more, passed_by, passed_on, past_limit, plain_fields, prepend, prepended, read_from_good, register_says, ring_fits, ring_length, ring_sound, ring_taken, said_behind, same_most, shape_says, sixteen_digits, size_read, some_came, some_lines, sound_named, step_from_read, stopped, sub_says, subs_say, table_read, table_written, too_much, row_sound, two_digits, unfaulted, version_read, version_there, whole_schedule, whole_text, write_says, written_as_printed, ring_of_line}
pub use Rattle.trace_reader.proofs.RingsGrow.{its_segments, one_more_unmoved, one_ring_more, placed_well}
pub use Rattle.trace_reader.proofs.RowLines.{behind_noted, no_ring, placed_error, plain_placed, row_error, row_placed}
pub use Rattle.trace_reader.proofs.RowsAhead.{begins_with, cut_at, found_ahead, if_is}
pub use Rattle.trace_reader.proofs.Spelled.{one_trace, read_if_spelled, spelled_if_read, two_words, whole_there, words_written}
pub use Rattle.trace_reader.proofs.SpelledTraces.{read_on, spells_from_read}
pub use Rattle.trace_reader.proofs.Streaming.Calls.{StandsAhead, bad_ahead, bad_told, call_of, cut_of, given, no_row, none_held, nothing_came, row_begins, row_given, still}
pub use Rattle.trace_reader.proofs.Streaming.LineEnds.{ended_if_read, three}
pub use Rattle.trace_reader.proofs.Words.{All, All-cons, All-head, All-join, All-nil, All-tail, All-weaker, AreFields, AreNumbered, AreOfLines, BadHeader, Bell, Bool, Call, Comes, Consumes, Consumes-nil, Consumes-trans, Device, Erdp, Err, Evt, Fault, Field, Finish, FitsLine, GivenRows, Header, IfBadLine, IfErr, IfFault, IfOk, IfSome, IsBehind, IsBlock, IsCall, IsFilled, IsHeader, IsHeld, IsOpened, IsPlan, IsPlanLine, IsReadTo, IsRow, IsSameTrace, IsSchedule, IsStep, IsTold, IsTrace, IsTraceRow, IsTrue, Limit, Line, LineError, LineFault, List, Look, Memory, NextRow, NoMemory, None, OfLater, OfStream, OfText, Ok, Option, Other, PlanLine, PlanText, Progress, Read, ReadFault, Reg, Report, Result, Ret, Ring, RingKind, Row, RowReader, Said, SaysAlone, SaysRing, SaysRow, Scribble, Some, State, Step, StreamFault, Sub, TextLine, TraceSoFar, TraceText, Version, Write, [], ahead_of, and_from, and_parts, answered, ap, append-nil, append_assoc, are_written, arith, at_line, begins_with_ring, behind_line, behind_row, bytes_eq, call_in, call_on, cases_Bool, clash, codes, common_steps, plans_too_much, drop, drop_more, eqb-true, err_from_is_err_and, false, fault_of, fields_of-join, finish_line, flat_map, get_or, go_on, has_ended, have_new_ids, inl, inr, is_event_kind, is_line_feed, is_second, is_shape, is_written, join_with_byte, joined, joined_behind, le-ltb, length, length-map, length-take-le, lines_of-ended, lines_of-nothing, lines_written, list_any, look_line, lt-ltb, ltb-false, map, min, most_lines, most_of, most_schedule_lines, most_streamed_lines, nat_tests, ne_eqb, next_number, not-false, not-true, opened_by, or_parts, other_line, plan_in, plan_line, plan_line_fault, plan_ring, plan_ring_fault, plan_sub_line, plan_version_fields, printed, progress_of, read_with, refl, report_line, ret_line, ring_alone, ring_of, row_line, row_of, rows_given, rules, said_alone, same_text, schedule_in, schedule_version_fields, scrib_line, segment_of, segments_overlap, start, state_of, step_fault, step_line, step_lines, subst, sym, take, text_of, took_in, true, value_of, valued_by, whole, with_ring, with_row, with_rows, with_said, ℕ, ◌*◌, ◌++◌, ◌+◌, ◌-◌, ◌<◌, ◌^◌, ◌||◌, ◌∙◌, ◌∷◌, ◌≡◌, ◌≤◌, AreRowsOf, IsRowOf, IsBadLine, Halt, halt_line}
unfoldable pub use Rattle.trace_reader.proofs.Words.{blocks_of, fields_of, is_plan_version, is_schedule_version, lines_of, lines_say, next_row, opened, opened_in, plan_form_of, plan_line_fields, plan_of, plan_text_lines, plan_value, printed_line, printed_schedule, printed_trace, read_line, read_lines, ring_fields, ring_line_form, ring_value, row_fields, schedule_lines, schedule_of, segments_of, spells, spells_plan, spells_schedule, step_fields, step_form_of, step_value, trace_lines, trace_of, read_by_calls}
