-- Words and lemmas, passed on to the files above them
pub use Rattle.ring_knowledge.proofs.Borders.{border_begins, border_ends}
pub use Rattle.ring_knowledge.proofs.DueWrites.{Gives, GivesCrossing, data_is, data_no_link, found, gives-data, gives-other_cycle, gives-other_word, gives-true, gives_crossing-link, gives_crossing-other_cycle, gives_crossing-other_word, gives_crossing-true, link_is, no_crossing_elsewhere, no_crossing_of_data, no_position_elsewhere, no_position_of_link}
pub use Rattle.ring_knowledge.proofs.FreeNumbers.{all_there, first_passes, none_in, not_restored_is, some_in, unrestored_is}
pub use Rattle.ring_knowledge.proofs.GivenCount.{count_is, counts_on, new_stop, past_not_given, written_step}
pub use Rattle.ring_knowledge.proofs.MiddleLaws.{IsDue, any_at, any_filtered, any_none, any_only, any_same_from, crossing_behind, cycle_bit, declared_here, declared_marks, due_crossing, due_number, false_unless, few_within, filter_none, filter_only, first_between, first_beyond, first_crossing_at, first_other, first_position, last_found, last_no_link, last_place, last_somewhere, lengths_grown, link_of-crossed, named_beyond, named_first, named_nowhere, no_move, no_move_between, none_between, none_cleared, none_here, not_whole, noted_due, noted_more, noted_within, nothing_declared, nowhere_else, nowhere_off, one_cleared, one_move, or_false, room_test, same_due, same_due_crossing, same_note, same_numbers, step_not_given, step_with_link, step_without_link, target_is, whole, word_there}
pub use Rattle.ring_knowledge.proofs.NewRecord.{new_marks}
pub use Rattle.ring_knowledge.proofs.ReachedSpots.{reached_marks}
pub use Rattle.ring_knowledge.proofs.WholeBelow.{ends_at_border, ends_within, forgotten_now, kept_from, passed_with_forgotten}
pub use Rattle.ring_knowledge.proofs.Withdrawn.{back, begins_at, from_in, length_is, none_before, none_free_before, none_no_op, one_no_op, restored_now, same_sets, withdrawn_here}
pub use Rattle.ring_knowledge.proofs.Words.{AreCleared, AreWholeBelow, AtData, AtLink, Bool, Contains, Crossing, Data, FollowsMarks, FollowsRing, Holds, IfSome, IsFromFloor, IsNotPassed, Link, List, None, Option, Position, Reaches, RingGiving, RingRecord, RingView, Shape, Some, Spot, Writes, [], address_aligned, address_of, after, after_is, all_in_range, and_from, and_parts, and_right, ap, arith, block_at, both_ways, cases_Bool, cases_lt, changed, cond, contains, crossed_link, crosses, crossing_given, crossing_given_is, crossing_positive, crossings_of, cycle_of, declared, deref, eq-eqb, eqb-false, eqb-true, false, false≢true, filter, floor_number, get_or, gives, gives_crossing, gives_is, if◌then◌else◌, in_range_all, inl, inr, is_crossing, is_crossing-from, is_handed_over, is_in, is_some, is_the, le-leb, le-ltb, least_crossing, leb-true, length, length-no_ops, length-set, link_address, link_address_is, link_aligned, link_crossed, links, list_any, lt-ltb, ltb-true, max, nat_cmp, nat_le, nat_lt, ne_eqb, no_flips, no_op, none-some, not, not-false, not-true, number, option_map, or_cases, or_left, or_right, overlap, place_at, place_at-Data, place_at-Link, place_at-address_of, place_at-data, place_at-link, place_below, place_count, place_of, position_given, position_given_is, positions_of, range_with_len, rank_most, refl, replicate, rest_all, rest_more, rules, same_words, set, slice_get, slice_index, subst, suc, sym, true, unwrap_or, with_cycle, zero, ℕ, ◌%◌, ◌&&◌, ◌*◌, ◌+◌, ◌-◌, ◌/◌, ◌<◌, ◌==◌, ◌||◌, ◌∙◌, ◌∷◌, ◌≡◌, ◌≢◌, ◌≤◌}
unfoldable pub use Rattle.ring_knowledge.proofs.Words.{are_given, are_ways_given, ceiling, crossings_given, descriptor_length, due_crossings, due_positions, flips_passed, given_count, is_move, is_noted, is_placement, is_reached, is_step_given, is_stop_spot, is_way_given, leased_crossings, leased_positions, link_of, no_ops, positions_given, stopped_number, unrestored}
