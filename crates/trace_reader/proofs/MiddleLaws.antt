-- Words and lemmas, passed on to the files above them
pub use Rattle.trace_reader.proofs.PlacedBlocks.{blocks_within, subs_say}
pub use Rattle.trace_reader.proofs.FixedPlaces.{bell_says, event_says, register_says, sub_says, write_says}
pub use Rattle.trace_reader.proofs.Grammar.{AreLines, IsSaid, table_read, table_written}
pub use Rattle.trace_reader.proofs.LineSteps.{at_start, bad_line_there, content_faulty, content_whole, faulted, lines_ended, one_line_more, passed_by, prepended, unfaulted}
pub use Rattle.trace_reader.proofs.LowerLaws.{AllSound, AreLeft, AreSpelled, IsCut, IsSpelling, NoFeed, added, all_with, alone, are_same_bytes, behind, behind_header, clashes, come_behind, cut, dropped, ended, ended_behind, ended_left, ended_lines, header_there, kept, last_met, line_entry, line_error, line_of, line_read, line_spells, lines_read, lines_spell, long_line, lowered, moved, no_feed_in, no_ring_taken, no_second, no_size, no_text, no_version, no_word, none_met, none_overlapped, not_limited, nothing_before, nothing_behind, one_less, only, passed_on, past_limit, plain_fields, prepend, ring_taken, said_behind, same_bytes, same_most, size_read, some_came, some_lines, stopped, then_are, too_much, unended_whole, version_read, version_there, whole_schedule, whole_text, written_as_printed}
pub use Rattle.trace_reader.proofs.SpelledHeaders.{no_clash, ring_fits, shape_says, together_with}
pub use Rattle.trace_reader.proofs.SpelledLines.{IsGood, no_ring_behind, ok_there, read_from_good, said_sound, step_from_read, there}
pub use Rattle.trace_reader.proofs.SpelledSaid.{FitsRing, fields_said, ring_of_line}
pub use Rattle.trace_reader.proofs.SpelledSizes.{block_length, block_sound, blocks_length, blocks_sound, digits_32, digits_64, digits_8, eight_digits, ring_length, ring_sound, sixteen_digits, sound_named, row_sound, two_digits}
pub use Rattle.trace_reader.proofs.SpelledWords.{word_first}
pub use Rattle.trace_reader.proofs.Words.{All, All-cons, All-head, All-join, All-nil, All-tail, All-weaker, Answers, AnswersRow, AreFields, AreNumbered, AreOfLines, BadHeader, BeginsWithRow, Bell, Bool, Call, Comes, Consumes, Consumes-nil, Consumes-trans, ContextSize, Device, Erdp, Err, Evt, Fault, Field, Finish, FitsLine, GivenRows, Header, IfBadLine, IfErr, IfFault, IfOk, IfSome, IsAtEnd, IsBehind, IsBlock, IsCall, IsFilled, IsHeader, IsHeld, IsOpened, IsPlan, IsPlanLine, IsReadTo, IsRow, IsSameTrace, IsSchedule, IsStep, IsTold, IsTrace, IsTraceRow, IsTrue, Limit, Line, LineError, LineFault, List, Look, Memory, NextRow, NoMemory, None, OfLater, OfStream, OfText, Ok, One, Option, Other, PlanLine, PlanText, Progress, Read, ReadFault, Reg, Report, Result, Ret, Ring, RingKind, RingRow, Row, RowReader, Said, SaysAlone, SaysPlaced, SaysRing, SaysRow, Scribble, Segment, Some, State, Step, StreamFault, Sub, TextLine, TraceSoFar, TraceText, Version, Word, Write, [], ahead_of, and_from, and_parts, answered, ap, append-nil, append_assoc, are_apart, are_written, arith, at_line, begins_with_ring, behind_answer, behind_content, behind_line, behind_row, bytes_eq, bytes_eq-Decides, call_in, call_on, cases_Bool, clash, codes, common_steps, cond, plans_too_much, drop, drop_at, drop_more, eqb-true, err_from_is_err_and, false, fault_of, fields_of-join, finish_line, flat_map, get_or, go_on, has_ended, has_no_shape, has_used_id, have_new_ids, ids_with, inl, inr, is_event_kind, is_line_feed, is_misplaced, is_of_version, is_second, is_segment, is_shape, is_too_much, is_written, join-fields_of, join_with_byte, joined, joined_behind, le-ltb, length, length-append, length-map, length-take-le, lines_of-ended, lines_of-nothing, lines_written, list_all, list_all-append, list_any, look_line, lt-ltb, ltb-false, ltb-true, map, may_be_written, may_stand_together, min, most_bytes, most_lines, most_of, most_schedule_lines, most_streamed_lines, nat_lt, nat_tests, ne_eqb, next_number, not, not-false, not-true, opened_by, or_from, or_parts, other_line, placed, plan_in, plan_line, plan_line_fault, plan_ring, plan_ring_fault, plan_sub_line, plan_version_fields, printed, progress_of, read_with, refl, report_line, ret_line, ring_alone, ring_of, row_line, row_of, rows_given, rules, said_alone, same_text, schedule_in, schedule_version_fields, scrib_line, segment_facts, segment_of, segments_overlap, size_fields, slice_index, start, state_of, step_fault, step_line, step_lines, str_to_ascii_lowercase, subst, suc, sym, take, text_of, to_ascii_lowercase, took_in, true, value_of, valued_by, version_fields, whole, with_ring, with_row, with_rows, with_said, zero, ℕ, ◌&&◌, ◌*◌, ◌++◌, ◌+◌, ◌-◌, ◌<◌, ◌^◌, ◌||◌, ◌∙◌, ◌∷◌, ◌≡◌, ◌≤◌, ◌⊎◌, AreRowsOf, IsRowOf, IsBadLine, are_unmoved, ◌==◌, eq-eqb}
unfoldable pub use Rattle.trace_reader.proofs.Words.{after, blocks_of, fields_of, is_plan_version, is_schedule_version, is_too_long, line_fault, lines_of, lines_say, next_row, opened, opened_in, plan_form_of, plan_line_fields, plan_of, plan_text_lines, plan_value, printed_line, printed_schedule, printed_trace, read_line, read_lines, ring_fields, ring_line_form, ring_value, row_fields, said_by_line, schedule_lines, schedule_of, segments_of, size_of, spells, spells_plan, spells_schedule, step_fields, step_form_of, step_value, trace_lines, trace_of, version_of, most_lines_of, read_by_calls}
pub use Rattle.trace_reader.proofs.LineFields.{fewer_kept}
pub use Rattle.trace_reader.proofs.ReadSteps.{header_there}
