-- The words of std, of the crates below and of this crate's own definitions that its proofs cite, passed on by one file
pub use Rattle.contexts.specs.declared.size.ContextSize.{ContextSize}
pub use Rattle.contexts.specs.declared.size.ContextSize.TheVariants.{Bytes32}
unfoldable pub use Rattle.hex.proofs.OnLiterals.{hex_on_literals}
pub use Rattle.line_text.proofs.Digits.{HasBytes, bytes_of_16, bytes_of_32, bytes_of_64, bytes_of_8, digits_are_lower, digits_stay_lower, digits_without_space, is_lower_digit, length-digits_of, said, spelled}
pub use Rattle.line_text.proofs.Joins.{All-join, AreFields, fields_of-join, join-fields_of, length-fields_of, lines_of-ended, lines_of-nothing, spaced_length}
pub use Rattle.line_text.specs.Fields.{has_empty_field, is_empty, is_space}
unfoldable pub use Rattle.line_text.specs.Fields.{fields_of}
pub use Rattle.line_text.specs.Lines.{TextLine, behind_content, is_line_feed, lines_between}
unfoldable pub use Rattle.line_text.specs.Lines.{lines_of}
unfoldable pub use Rattle.line_text.specs.Numbers.{digits_of, number_of}
pub use Rattle.segments.proofs.ShapeFacts.{segment_facts}
pub use Rattle.segments.specs.Places.{overlap}
pub use Rattle.segments.specs.Shape.{are_apart, is_segment, is_shape, rings_overlap, segments_overlap}
pub use Rattle.segments.specs.ShapeValue.{segment_of}
pub use Rattle.segments.specs.declared.segment.Segment.{Segment}
pub use Rattle.std.proofs.Common.{All, Bool, Err, IfErr, IfOk, IfSome, IsTrue, List, None, Ok, Option, Result, Some, [], ap, append-nil, append_assoc, arith, codes, cond, drop, eq-eqb, eqb-true, false, filter, get_or, inl, inr, is_none, is_some, le-ltb, length, length-append, length-drop, lt-ltb, ltb-false, ltb-true, map, min, nat_lt, ne_eqb, not, refl, rules, slice_index, subst, suc, sym, take, take-append-drop, take_at, true, w16, w32, w64, w8, zero, ℕ, ◌%◌, ◌&&◌, ◌*◌, ◌++◌, ◌+◌, ◌-◌, ◌<◌, ◌==◌, ◌^◌, ◌||◌, ◌∙◌, ◌∷◌, ◌≡◌, ◌≢◌, ◌≤◌, ◌⊎◌}
pub use Rattle.std.proofs.KnownBytes.{Consumes-nil, Consumes-trans}
pub use Rattle.std.proofs.Math.Seq.{drop-cons, paste, take-append-add}
pub use Rattle.std.proofs.lemmas.Bool.{and_from, and_parts, cases_Bool, cases_lt, not-false, not-true, or_from, or_parts}
pub use Rattle.std.proofs.lemmas.Bool.Decides.{nat_tests}
pub use Rattle.std.proofs.lemmas.Cmp.{ranked}
pub use Rattle.std.proofs.lemmas.Grind.{common_steps}
pub use Rattle.std.proofs.lemmas.List.{drop-drop, drop-map, drop-take, drop_at, drop_more, get_or-drop, get_or-map, get_or_at, length-map, length-take-le, map-append, take-append-le, take-map, take-take}
pub use Rattle.std.proofs.lemmas.List.Edits.{take-paste}
pub use Rattle.std.proofs.lemmas.List.Elements.{All-append, All-cons, All-head, All-nil, All-tail, All-weaker}
pub use Rattle.std.proofs.lemmas.List.Folds.{list_all-append, list_any-append}
pub use Rattle.std.proofs.lemmas.List.Splits.{join_with_byte-slice_split, slice_split_at, slice_split_none}
pub use Rattle.std.proofs.lemmas.List.Sums.{AllPass-from_list_all}
pub use Rattle.std.proofs.lemmas.Result.{err_from_is_err_and}
pub use Rattle.std.proofs.lemmas.Slice.Eq.{bytes_eq-Decides}
pub use Rattle.std.specs.BTreeMap.{insert_entry}
pub use Rattle.std.specs.Char.{to_ascii_lowercase}
pub use Rattle.std.specs.Cmp.Lexicographic.{same_text}
pub use Rattle.std.specs.Int.{Width, byte_len}
pub use Rattle.std.specs.Io.BufRead.{drop_through}
pub use Rattle.std.specs.Io.KnownBytes.{Consumes, IsAtEnd, Keeps}
pub use Rattle.std.specs.List.{flat_map, join_with_byte, list_all, list_any, slice_split}
pub use Rattle.std.specs.Option.{option_and_then, option_map, option_map_or}
pub use Rattle.std.specs.Ordering.{is_lt, match_ordering, nat_cmp}
pub use Rattle.std.specs.Prelude.{⊤}
pub use Rattle.std.specs.Str.{bytes_eq, str_to_ascii_lowercase}
pub use Rattle.std.specs.declared.cmp.Ordering.{Ordering}
pub use Rattle.std.specs.declared.cmp.Ordering.TheVariants.{Equal, Greater, Less}
pub use Rattle.trace_reader.specs.Entries.{Answers, AnswersRow, IfBadLine, IfFault, SaysAlone, SaysPlaced, at_line, form_behind, placed, ring_of, row_of, said_alone, said_by, state_of, text_of, took_in, value_of}
unfoldable pub use Rattle.trace_reader.specs.Entries.{content_fault, said_by_fields, said_by_line, word_named}
pub use Rattle.trace_reader.specs.Forms.{are_blocks, named}
unfoldable pub use Rattle.trace_reader.specs.Forms.{kind_named, register_named}
pub use Rattle.trace_reader.specs.Grammar.{Behind, Blocks, Byte, Event, FormOf, Kind, KindOfRing, Long, Nothing, RegisterValue, Segments, Tail, Told, Values, WordAddress, are_behind, are_fields, form_as, is_known, line_named, told, value_in, values}
pub use Rattle.trace_reader.specs.LineAnswers.{AnswersBy, faulted_by, valued_by}
pub use Rattle.trace_reader.specs.LineByLine.{next_value}
unfoldable pub use Rattle.trace_reader.specs.LineByLine.{line_says, lines_say}
pub use Rattle.trace_reader.specs.PlanSpelling.{IsPlan, plan_version_fields}
unfoldable pub use Rattle.trace_reader.specs.PlanSpelling.{plan_line_fields, plan_text_lines, spells_plan}
pub use Rattle.trace_reader.specs.Plans.{PlanText, plans_too_much, plan_behind, plan_in, plan_line, plan_line_fault, plan_ring, plan_ring_fault, plan_sub_line, ret_line, ring_alone, with_ring}
unfoldable pub use Rattle.trace_reader.specs.Plans.{is_plan_version, plan_form_of, plan_of, plan_value, ring_line_form, ring_value}
pub use Rattle.trace_reader.specs.Printing.{in_a_row, spaced}
pub use Rattle.trace_reader.specs.Reading.{State, behind_row, go_on, has_no_shape, is_misplaced, is_too_much, most_of, next_number, start, whole, with_row, with_said}
unfoldable pub use Rattle.trace_reader.specs.Reading.{after, form_in, is_bad_number, is_bad_row, is_bad_shape, is_past_limit, is_too_long, line_fault, read_line, read_lines, row_fault, said_in, size_of, trace_of, version_of}
pub use Rattle.trace_reader.specs.RowsAhead.{AreBlocks, BeginsWithBlock, BeginsWithRow}
pub use Rattle.trace_reader.specs.ScheduleSpelling.{IsSchedule, schedule_version_fields}
unfoldable pub use Rattle.trace_reader.specs.ScheduleSpelling.{printed_schedule, schedule_lines, spells_schedule, step_fields}
pub use Rattle.trace_reader.specs.Schedules.{finish_line, look_line, other_line, report_line, row_line, schedule_in, scrib_line, step_fault, step_line, step_lines, halt_line}
unfoldable pub use Rattle.trace_reader.specs.Schedules.{is_schedule_version, schedule_of, step_form_of, step_value}
pub use Rattle.trace_reader.specs.SegmentsApart.{AreSegmentsOf, LieApart, is_second}
pub use Rattle.trace_reader.specs.Spelling.{Digits, Field, Word, are_written, block_fields, is_written, lines_written, may_be_written, printed, segment_field, size_fields, version_fields, version_word}
unfoldable pub use Rattle.trace_reader.specs.Spelling.{printed_line, printed_trace, ring_fields, row_fields, spells, trace_lines}
pub use Rattle.trace_reader.specs.Streaming.Ahead.{Comes, IsFilled, IsHeld, OfLater, OfText, ahead_of, has_come}
pub use Rattle.trace_reader.specs.Streaming.Answers.{IsCall, behind_answer, fault_of, has_ended}
pub use Rattle.trace_reader.specs.Streaming.ReaderState.{IsOpened, IsSameTrace, IsTold, progress_of}
pub use Rattle.trace_reader.specs.Streaming.RowByRow.{Call, Progress, behind_line, call_in, call_on, opened_by, with_rows}
unfoldable pub use Rattle.trace_reader.specs.Streaming.RowByRow.{next_row, opened, opened_in}
pub use Rattle.trace_reader.specs.Streaming.Streams.{IsReadTo, OfStream, read_with, IsBadLine}
pub use Rattle.trace_reader.specs.Streaming.WholeTexts.{AreNumbered, AreOfLines, GivenRows, IsBehind, answered, joined, joined_behind, rows_given}
pub use Rattle.trace_reader.specs.TraceLines.{Form, bell_line, comes_line, event_line, goes_line, reg_line, ring_line, sub_line, withdraws_line, write_line, reg_read_line, said_lines, ring_as}
unfoldable pub use Rattle.trace_reader.specs.TraceLines.{form_of, said_of}
pub use Rattle.trace_reader.specs.TraceOfText.{TraceText}
pub use Rattle.trace_reader.specs.Valid.{IsTrace}
pub use Rattle.trace_reader.specs.Values.{Said, SaysRing, SaysRow, both, cons, event_of}
unfoldable pub use Rattle.trace_reader.specs.Values.{block_of, blocks_of, register_value_of, segments_of, word_address_of}
pub use Rattle.trace_reader.specs.declared.entry.FirstWord.{FirstWord}
pub use Rattle.trace_reader.specs.declared.entry.FirstWord.TheVariants.{Db, Ev, Reg as RegWord, Sub as SubWord, W}
pub use Rattle.trace_reader.specs.declared.fault.LineError.{LineError}
pub use Rattle.trace_reader.specs.declared.fault.LineError.TheVariants.{Fault, Memory}
pub use Rattle.trace_reader.specs.declared.fault.LineFault.{LineFault}
pub use Rattle.trace_reader.specs.declared.fault.LineFault.TheVariants.{Header as BadHeader, Limit, Number, Row as BadRow, Shape}
pub use Rattle.trace_reader.specs.declared.fault.ReadFault.{ReadFault}
pub use Rattle.trace_reader.specs.declared.row_reader.fault.StreamFault.{StreamFault}
pub use Rattle.trace_reader.specs.declared.row_reader.fault.StreamFault.TheVariants.{Device, Line, Memory as NoMemory}
pub use Rattle.trace_reader.specs.declared.row_reader.reader.RowReader.{RowReader}
pub use Rattle.trace_reader.specs.declared.so_far.TraceSoFar.{TraceSoFar}
pub use Rattle.traces.specs.AllowedHeaders.{IsHeader, are_unmoved, clash, may_stand_together}
pub use Rattle.traces.specs.Header.{is_command_kind, is_event_kind}
pub use Rattle.traces.specs.Limits.{most_bytes, most_declared, most_lines, most_schedule_lines, most_streamed_lines}
unfoldable pub use Rattle.traces.specs.Limits.{most_lines_of}
pub use Rattle.traces.specs.PlanLines.{IsPlanLine}
pub use Rattle.traces.specs.Register.{is_wide, register_name}
pub use Rattle.traces.specs.Rows.{FitsLine, IsRow}
pub use Rattle.traces.specs.Steps.{IsStep, IsWordAddress}
pub use Rattle.traces.specs.TraceRows.{IsTraceRow, begins_with_ring, has_used_id, have_new_ids, ids_with, is_of_version, AreRowsOf, IsRowOf}
pub use Rattle.traces.specs.Versions.{has_runs}
pub use Rattle.traces.specs.declared.header.Header.{Header}
pub use Rattle.traces.specs.declared.plan.PlanLine.{PlanLine}
pub use Rattle.traces.specs.declared.plan.PlanLine.TheVariants.{Ret}
pub use Rattle.traces.specs.declared.register.Register.{Register}
pub use Rattle.traces.specs.declared.register.Register.TheVariants.{Config, Crcr, Dcbaap, Dnctrl, Erdp, Erstba, Erstsz, Iman, Imod, Usbcmd, Usbsts}
pub use Rattle.traces.specs.declared.ring.Ring.{Ring}
pub use Rattle.traces.specs.declared.row.Row.{Row}
pub use Rattle.traces.specs.declared.row.Row.TheVariants.{Bell, Read, Reg, Sub, Write, Ring as RingRow, Free as FreeRow, Nop as NopRow, RegRead}
pub use Rattle.traces.specs.declared.step.Step.{Step}
pub use Rattle.traces.specs.declared.step.Step.TheVariants.{Finish, Look, NextRow, Other, Report, Scribble, Halt}
pub use Rattle.traces.specs.declared.version.Version.{Version}
pub use Rattle.traces.specs.declared.version.Version.TheVariants.{One, Two, Three, Four}
pub use Rattle.trb.specs.Block.{IsBlock}
pub use Rattle.trb.specs.RingKind.{ring_name}
pub use Rattle.trb.specs.declared.block.Block.{Block}
pub use Rattle.trb.specs.declared.ring_kind.RingKind.{RingKind}
pub use Rattle.trb.specs.declared.ring_kind.RingKind.TheVariants.{Evt, Xfer}
pub use mir.Val.{bits}
unfoldable pub use Rattle.trace_reader.specs.Streaming.WholeTexts.{read_by_calls}
