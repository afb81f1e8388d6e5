-- What the answers cite: the words, and this crate's lemmas
pub use Rattle.ring_knowledge.proofs.DataNamed.{data_named}
pub use Rattle.ring_knowledge.proofs.FlippedWords.{behind_at, kept_at, no_flip, passed_at}
pub use Rattle.ring_knowledge.proofs.GivenUp.{behind_block, first_at, first_none, floor_within, gap_at, given_reached, no_gap}
pub use Rattle.ring_knowledge.proofs.GivenWords.{crossings_found, crossings_marked, crossings_none, no_crossing_named, no_position_named, positions_found, positions_marked, positions_none}
pub use Rattle.ring_knowledge.proofs.NotedWrites.{crossing_noted, nothing_noted, over_a_link, position_noted}
pub use Rattle.ring_knowledge.proofs.OwnedWords.{owned_data, owned_link, owned_nowhere, unowned_data}
pub use Rattle.ring_knowledge.proofs.PassedBlocks.{behind_reached, held_reached}
pub use Rattle.ring_knowledge.proofs.StopSpots.{stop_at_count, stop_at_link, stop_elsewhere, stop_reached, stopped_at_link, stopped_before, stopped_behind, way_with_link, way_without_link}
pub use Rattle.ring_knowledge.proofs.UpperLaws.{IsDue, all_there, any_at, any_none, any_same_from, back, begins_at, border_begins, border_ends, count_is, counts_on, crossing_behind, cycle_bit, data_is, data_no_link, declared_here, declared_marks, ends_at_border, ends_within, few_within, first_between, first_beyond, first_crossing_at, first_other, first_passes, first_position, forgotten_now, found, from_in, gives-data, gives-other_cycle, gives-other_word, gives_crossing-link, gives_crossing-other_cycle, gives_crossing-other_word, kept_from, last_found, last_no_link, last_place, last_somewhere, length_is, lengths_grown, named_beyond, named_first, named_nowhere, new_marks, new_stop, no_crossing_elsewhere, no_crossing_of_data, no_move, no_move_between, no_position_elsewhere, no_position_of_link, none_before, none_between, none_cleared, none_free_before, none_here, none_in, none_no_op, not_restored_is, not_whole, nothing_declared, nowhere_else, nowhere_off, one_cleared, one_move, one_no_op, passed_with_forgotten, past_not_given, reached_marks, restored_now, room_test, same_due, same_note, same_numbers, same_sets, some_in, step_not_given, step_with_link, step_without_link, target_is, unrestored_is, whole, withdrawn_here, written_step}
pub use Rattle.ring_knowledge.proofs.Words.{AreCleared, AreWholeBelow, AtData, Bool, Crossing, Data, FollowsRing, Holds, IsNotPassed, List, Opens, Option, Position, Reaches, RingView, Some, Writes, [], address_aligned, address_of, after, and_from, ap, arith, block_at, cases_lt, changed, common_steps, contains, crossings_of, cycle_of, declared, deref, eq-eqb, eqb-false, eqb-true, false, false≢true, filter, floor_number, get_or, has_value, if◌then◌else◌, inl, inr, is_in, le-leb, le-ltb, length, length-no_ops, link_crossed, list_any, lt-ltb, max, min, nat_cmp, nat_le, ne_eqb, no_flips, no_op, none-some, not, not-false, not-true, number, option_map, place_at, place_at-Data, place_count, place_count_pos, place_of, positions_of, range_with_len, rank_most, refl, replicate, rest_all, rest_more, rules, same_words, set, slice_get, slice_index, subst, suc, sym, true, unwrap_or, with_cycle, ℕ, ◌%◌, ◌&&◌, ◌+◌, ◌-◌, ◌<◌, ◌==◌, ◌||◌, ◌∙◌, ◌∷◌, ◌≡◌, ◌≤◌}
unfoldable pub use Rattle.ring_knowledge.proofs.Words.{behind_blocks, ceiling, data_at, descriptor_length, given_count, given_up, held_at_given, is_move, is_noted, is_placement, is_reached, is_step_given, is_stop_spot, is_way_given, no_ops, stopped_number}
