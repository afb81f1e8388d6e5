-- What the answers cite: the words, and this crate's lemmas
pub use Rattle.trace_reader.proofs.Printed.{printed_reads}
pub use Rattle.trace_reader.proofs.SpelledPlans.{one_plan, plan_read_if_spelled, plan_spelled_if_read}
pub use Rattle.trace_reader.proofs.SpelledSchedules.{one_schedule, schedule_printed_reads, schedule_read_if_spelled, schedule_spelled_if_read}
pub use Rattle.trace_reader.proofs.Streaming.Openings.{HasRead, end_told, fault_told, more_came, no_header_told, nothing_read, row_told, told_bad, told_ring, told_row}
pub use Rattle.trace_reader.proofs.Streaming.RowsFit.{answer_fits}
pub use Rattle.trace_reader.proofs.Unspelled.{err_also, none_spelled, ok_also, refused_unspelled}
pub use Rattle.trace_reader.proofs.UpperLaws.{AreLeft, IsCut, StandsAhead, added, all_with, alone, at_start, bad_line_there, bad_told, begins_with, behind, behind_noted, bell_says, blocks_within, clashes, come_behind, content_faulty, content_whole, cut_at, cut_of, ended, ended_left, event_says, faulted, found_ahead, given, header_there, if_is, its_segments, kept, last_met, line_entry, line_error, line_of, lines_ended, lowered, moved, no_ring, no_ring_taken, no_row, no_second, no_size, no_text, no_version, no_word, none_met, none_overlapped, not_limited, nothing_before, nothing_behind, nothing_came, one_less, one_line_more, one_more_unmoved, one_ring_more, one_trace, passed_by, passed_on, past_limit, placed_error, placed_well, plain_placed, prepend, prepended, register_says, ring_taken, row_begins, row_error, row_given, row_placed, said_behind, same_most, size_read, some_came, some_lines, spelled_if_read, still, stopped, sub_says, subs_say, too_much, unfaulted, version_read, version_there, whole_schedule, whole_text, write_says}
pub use Rattle.trace_reader.proofs.Words.{AreBlocks, Bell, Erdp, IsPlan, IsSchedule, IsTrace, Limit, None, Ok, PlanLine, PlanText, Read, Reg, Ring, SaysAlone, SaysRow, Some, State, Step, Sub, Write, [], ahead_of, ap, arith, clash, common_steps, drop, drop_more, eqb-true, err_from_is_err_and, false, get_or, is_second, le-ltb, length, length-take-le, list_any, lt-ltb, map, min, most_lines, most_of, most_schedule_lines, most_streamed_lines, nat_tests, next_number, plan_line, plan_line_fault, plan_ring_fault, progress_of, refl, ring_of, row_of, rules, said_alone, same_text, segment_of, segments_overlap, start, state_of, step_fault, step_line, subst, sym, take, text_of, true, value_of, valued_by, ◌*◌, ◌++◌, ◌+◌, ◌-◌, ◌<◌, ◌^◌, ◌||◌, ◌∙◌, ◌∷◌, ◌≡◌, ◌≤◌, AreRowsOf, IsRowOf, TraceText, trace_of, read_lines, whole}
unfoldable pub use Rattle.trace_reader.proofs.Words.{blocks_of, fields_of, lines_of, lines_say, plan_form_of, plan_of, plan_value, printed_schedule, printed_trace, ring_fields, ring_line_form, ring_value, row_fields, schedule_of, segments_of, spells_plan, spells_schedule, step_fields, step_form_of, step_value}
pub use Rattle.trace_reader.proofs.Spelled.{few_lines, few_rows, valid}
pub use Rattle.trace_reader.proofs.ReadSteps.{HasLines}
