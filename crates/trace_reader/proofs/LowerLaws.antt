-- Words and lemmas, passed on to the files above them
pub use Rattle.trace_reader.proofs.FirstWords.{no_word, said_behind}
pub use Rattle.trace_reader.proofs.LineByLine.{AreSpelled, IsSpelling, by_content, line_read, line_spells, lines_read, lines_spell}
pub use Rattle.trace_reader.proofs.LineFields.{alone, not_limited, passed_on, past_limit, same_most, some_lines, too_much}
pub use Rattle.trace_reader.proofs.LinePieces.{line_of, whole_text}
pub use Rattle.trace_reader.proofs.Lowered.{lowered}
pub use Rattle.trace_reader.proofs.PlanSteps.{no_ring_taken, no_second, ring_taken}
pub use Rattle.trace_reader.proofs.Prefixes.{behind, nothing_behind}
pub use Rattle.trace_reader.proofs.ReadSteps.{behind_header, ended, header_there, line_entry, line_error, no_size, no_version, nothing_before, prepend, size_read, stopped, version_read}
pub use Rattle.trace_reader.proofs.RingsClash.{all_with, clashes, none_overlapped}
pub use Rattle.trace_reader.proofs.ScheduleSteps.{no_text, version_there, whole_schedule}
pub use Rattle.trace_reader.proofs.SegmentsSearched.{AreLeft, added, last_met, none_met, one_less}
pub use Rattle.trace_reader.proofs.SpelledFields.{AllSound, IsSound, all_filled, are_same_bytes, both_of, both_there, cond_there, mapped_there, number_read, number_written, plain_digits, plain_fields, same_bytes, sound_append, sound_digits, sound_map, sound_word, spaced_length-append, then_are, then_there, written_as_printed, written_lengths}
pub use Rattle.trace_reader.proofs.SpelledSegments.{FitsSegment, segments_read, segments_written}
pub use Rattle.trace_reader.proofs.SpelledValues.{blocks_read, blocks_written, event_read, event_written, only, word_field, words_there}
pub use Rattle.trace_reader.proofs.Streaming.Arriving.{come_behind, kept, moved, some_came}
pub use Rattle.trace_reader.proofs.Streaming.FirstLines.{IsCut, NoFeed, cut, dropped, ended_behind, ended_left, ended_lines, long_line, no_feed_in, unended_whole}
pub use Rattle.trace_reader.proofs.Words.{All, All-append, All-cons, All-head, All-join, All-nil, All-tail, All-weaker, AllPass-from_list_all, Answers, AnswersBy, AnswersRow, AreBlocks, AreFields, AreNumbered, AreOfLines, BadHeader, BeginsWithBlock, BeginsWithRow, Behind, Bell, Block, Blocks, Bool, Byte, Call, Comes, Config, Consumes, Consumes-nil, Consumes-trans, ContextSize, Crcr, Dcbaap, Device, Digits, Dnctrl, Erdp, Err, Erstba, Erstsz, Event, Evt, Fault, Field, Finish, FitsLine, Form, FormOf, GivenRows, FreeRow, HasBytes, Header, IfBadLine, IfErr, IfFault, IfOk, IfSome, Iman, Imod, IsAtEnd, IsBehind, IsBlock, IsCall, IsFilled, IsHeader, IsHeld, IsOpened, IsPlan, IsPlanLine, IsReadTo, IsRow, IsSameTrace, IsSchedule, IsStep, IsTold, IsTrace, IsTraceRow, IsTrue, IsWordAddress, Kind, KindOfRing, Limit, Line, LineError, LineFault, List, Long, Look, Memory, NextRow, NoMemory, None, Nothing, OfLater, OfStream, OfText, Ok, One, Option, Other, PlanLine, PlanText, Progress, Read, ReadFault, Reg, Register, RegisterValue, Report, Result, Ret, Ring, RingKind, RingRow, Row, RowReader, Said, SaysAlone, SaysPlaced, SaysRing, SaysRow, Scribble, Segment, Segments, Some, State, Step, StreamFault, Sub, Tail, TextLine, Told, TraceSoFar, TraceText, Usbcmd, Usbsts, Values, Version, Width, NopRow, Word, WordAddress, Write, Xfer, [], ahead_of, and_from, and_parts, answered, ap, append-nil, append_assoc, are_apart, are_behind, are_blocks, are_fields, are_written, arith, at_line, begins_with_ring, behind_answer, behind_content, behind_line, behind_row, bell_line, block_fields, byte_len, bytes_eq, bytes_eq-Decides, bytes_of_32, bytes_of_64, bytes_of_8, call_in, call_on, cases_Bool, clash, codes, comes_line, common_steps, cond, plans_too_much, digits_stay_lower, digits_without_space, drop, drop-cons, drop-drop, drop_at, drop_more, eq-eqb, eqb-true, err_from_is_err_and, event_line, false, fault_of, faulted_by, fields_of-join, finish_line, flat_map, form_as, get_or, get_or-drop, go_on, goes_line, has_empty_field, has_ended, has_no_shape, has_used_id, have_new_ids, ids_with, inl, inr, is_command_kind, is_empty, is_event_kind, is_known, is_line_feed, is_misplaced, is_none, is_of_version, is_second, is_segment, is_shape, is_some, is_space, is_too_much, is_wide, is_written, join-fields_of, join_with_byte, joined, joined_behind, le-ltb, length, length-append, length-digits_of, length-drop, length-fields_of, length-map, length-take-le, line_named, lines_of-ended, lines_of-nothing, lines_written, list_all, list_all-append, list_any, list_any-append, look_line, lt-ltb, ltb-false, ltb-true, map, map-append, may_be_written, may_stand_together, min, most_bytes, most_declared, most_lines, most_of, most_schedule_lines, most_streamed_lines, named, nat_lt, nat_tests, ne_eqb, next_number, next_value, not, not-false, not-true, opened_by, option_and_then, option_map, option_map_or, or_from, or_parts, other_line, overlap, placed, plan_in, plan_line, plan_line_fault, plan_ring, plan_ring_fault, plan_sub_line, plan_version_fields, printed, progress_of, read_with, refl, reg_line, register_name, report_line, ret_line, ring_alone, ring_line, ring_name, ring_of, row_line, row_of, rows_given, rules, said, said_alone, same_text, schedule_in, schedule_version_fields, scrib_line, segment_facts, segment_field, segment_of, segments_overlap, size_fields, slice_index, slice_split, slice_split_at, slice_split_none, spaced_length, start, state_of, step_fault, step_line, step_lines, str_to_ascii_lowercase, sub_line, subst, suc, sym, take, take-append-drop, text_of, to_ascii_lowercase, told, took_in, true, value_in, value_of, valued_by, values, version_fields, w32, w64, w8, whole, with_ring, with_row, with_rows, with_said, withdraws_line, write_line, zero, ℕ, ◌%◌, ◌&&◌, ◌*◌, ◌++◌, ◌+◌, ◌-◌, ◌<◌, ◌==◌, ◌^◌, ◌||◌, ◌∙◌, ◌∷◌, ◌≡◌, ◌≢◌, ◌≤◌, ◌⊎◌, AreRowsOf, IsRowOf, IsBadLine, reg_read_line, said_lines, RegRead, Three, Four, Two, has_runs, ring_as}
unfoldable pub use Rattle.trace_reader.proofs.Words.{after, block_of, blocks_of, content_fault, digits_of, fields_of, form_in, form_of, is_bad_number, is_bad_row, is_bad_shape, is_past_limit, is_plan_version, is_schedule_version, is_too_long, kind_named, line_fault, line_says, lines_of, lines_say, next_row, number_of, opened, opened_in, plan_form_of, plan_line_fields, plan_of, plan_text_lines, plan_value, printed_line, printed_schedule, printed_trace, read_line, read_lines, register_named, register_value_of, ring_fields, ring_line_form, ring_value, row_fault, row_fields, said_by_fields, said_by_line, said_in, said_of, schedule_lines, schedule_of, segments_of, size_of, spells, spells_plan, spells_schedule, step_fields, step_form_of, step_value, trace_lines, trace_of, version_of, word_address_of, read_by_calls}
