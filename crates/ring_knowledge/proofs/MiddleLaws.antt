-- Words and lemmas, passed on to the files above them
pub use Rattle.ring_knowledge.proofs.DeclaredMore.{declared_marks, lengths_grown, room_test, sum-cons}
pub use Rattle.ring_knowledge.proofs.LowerLaws.{IsDue, any_at, any_filtered, any_none, any_only, any_same, any_same_from, crossing_behind, cycle_bit, declared_here, drop_no_ops, due_crossing, due_number, few_within, filter_none, filter_only, first_between, first_beyond, first_crossing_at, first_other, first_position, get_kept, last_found, last_no_link, last_place, last_somewhere, link_of-crossed, named_beyond, named_first, named_nowhere, none_between, none_cleared, none_each, none_here, nothing_declared, nowhere_else, nowhere_off, one_cleared, or_false, same_due, same_due_crossing, same_numbers, target_is, word_there}
pub use Rattle.ring_knowledge.proofs.MoveTests.{no_move, no_move_between, one_move}
pub use Rattle.ring_knowledge.proofs.Noted.{false_unless, noted_below, noted_due, noted_more, noted_past, noted_within}
pub use Rattle.ring_knowledge.proofs.WholeDescriptors.{not_whole, same_note, step_not_given, step_with_link, step_without_link, whole}
pub use Rattle.ring_knowledge.proofs.Words.{AllByRecursion, AreCleared, ArePositive, AreWholeBelow, AtData, AtLink, BTreeSet, Block, Bool, Contains, Crossing, Data, FollowsMarks, FollowsRing, Holds, IfSome, IsFromFloor, IsNotPassed, IsOrdered, IsShape, IsStrictlySortedBy-filter, Less, Link, List, None, Option, Place, Position, Reaches, Restores, RingGiving, RingRecord, RingView, Shape, Some, Spot, Withdraws, Writes, [], address_aligned, address_of, after, after_is, all_in_range, and_from, and_parts, and_right, any-filter_same, ap, arith, block_at, both_ways, btree_set_from_contains, cases_Bool, cases_eq, cases_lt, changed, common_steps, cond, cond-false, cond-true, contains, crossed_link, crosses, crossing_given, crossing_given_is, crossing_positive, crossings_of, cycle_of, declared, deref, drop, eq-eqb, eqb-false, eqb-true, exact_unsigned, false, false≢true, filter, floor_number, get_or, gives, gives_crossing, gives_is, if◌then◌else◌, in_range_all, inl, inr, is_at, is_crossing, is_crossing-from, is_crossing_due, is_due, is_handed_over, is_in, is_some, is_the, le-leb, le-ltb, least_crossing, leb-true, length, length-map, length-no_ops, length-set, link_address, link_address_is, link_aligned, link_crossed, link_crossed-lap, links, list_any, lt-ltb, ltb-true, max, min, nat_cmp, nat_cmp_total, nat_le, nat_lt, nat_tests, ne_eqb, new_ring, no_flips, no_op, none-some, not, not-false, not-true, number, option_map, or_cases, or_left, or_right, overlap, place_at, place_at-Link, place_at-address_of, place_at-data, place_at-link, place_at-link_address, place_below, place_count, place_of, place_of-lap, position_given, position_given_is, positions_of, range_with_len, rank_most, refl, replicate, rest_all, rest_more, rules, same_words, set, slice_get, slice_index, split_sum, subst, suc, sum, sym, true, unwrap_or, with_cycle, zero, ℕ, ◌%◌, ◌&&◌, ◌*◌, ◌++◌, ◌+◌, ◌-◌, ◌/◌, ◌<◌, ◌==◌, ◌||◌, ◌∙◌, ◌∷◌, ◌≡◌, ◌≢◌, ◌≤◌}
unfoldable pub use Rattle.ring_knowledge.proofs.Words.{are_given, are_ways_given, ceiling, crossings_given, descriptor_length, due_crossings, due_positions, first_not_given, flips_passed, given_count, is_border, is_declared_as, is_move, is_not_restored, is_noted, is_placement, is_reached, is_step_given, is_stop_spot, is_way_given, leased_crossings, leased_positions, length_from, link_of, no_ops, positions_given, split_at, stopped_number, unrestored}
