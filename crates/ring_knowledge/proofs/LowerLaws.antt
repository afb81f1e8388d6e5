-- Words and lemmas, passed on to the files above them
pub use Rattle.ring_knowledge.proofs.ClearedMarks.{none_cleared, none_here, one_cleared, same_numbers}
pub use Rattle.ring_knowledge.proofs.Declared.{cycle_bit, declared_here, nothing_declared}
pub use Rattle.ring_knowledge.proofs.DueNumbers.{IsDue, crossing_behind, due_crossing, due_number, link_of-crossed, same_due, same_due_crossing, word_there}
pub use Rattle.ring_knowledge.proofs.Forgotten.{drop_append, drop_no_ops, get_kept}
pub use Rattle.ring_knowledge.proofs.LastPlaces.{last_found, last_no_link, last_place, last_somewhere}
pub use Rattle.ring_knowledge.proofs.NamedNow.{few_within, named_beyond, named_first, named_nowhere, target_is}
pub use Rattle.ring_knowledge.proofs.Ranges.{any_at, any_filtered, any_none, any_only, any_same, any_same_from, filter_none, filter_only, none_each, or_false}
pub use Rattle.ring_knowledge.proofs.SpotsAt.{first_crossing_at, first_position, nowhere_else, nowhere_off}
pub use Rattle.ring_knowledge.proofs.SpotsBetween.{first_between, first_beyond, first_other, none_between, one_between, target_parts}
pub use Rattle.ring_knowledge.proofs.Words.{All, All-head, All-tail, All-weaker, AllByRecursion, AreCleared, ArePositive, AreWholeBelow, AtData, AtLink, BTreeSet, Block, Bool, Contains, Crossing, Data, Declares, FollowsMarks, FollowsRing, Holds, IfSome, IsFromFloor, IsNotPassed, IsOrdered, IsShape, IsStrictlySortedBy-filter, Less, Link, List, None, Option, Place, Position, Reaches, Restores, RingGiving, RingRecord, RingView, Shape, Some, Spot, Withdraws, Writes, [], address_aligned, address_of, after, after_is, all_in_range, and_from, and_parts, and_right, any-filter_same, ap, arith, between, block_at, both_ways, btree_set_from_contains, cases_Bool, cases_eq, cases_lt, changed, common_steps, cond, cond-false, cond-true, contains, crossed_link, crosses, crossing_given, crossing_given_is, crossing_positive, crossings_of, cycle_of, declared, deref, drop, eq-eqb, eqb-false, eqb-true, exact_unsigned, false, false_from_ne_true, false≢true, filter, find, floor_number, found_is, get_or, get_or-set_other, get_or-set_same, gives, gives_crossing, gives_is, if◌then◌else◌, in_range_all, inl, inr, is_at, is_crossing, is_crossing-from, is_crossing_due, is_due, is_handed_over, is_in, is_some, is_the, le-leb, le-ltb, least_crossing, leb-true, length, length-append, length-map, length-no_ops, length-set, length_from-push, link_address, link_address_is, link_aligned, link_crossed, link_crossed-lap, links, list_all, list_any, lt-leb, lt-ltb, ltb-false, ltb-true, max, min, nat_cmp, nat_cmp_total, nat_le, nat_lt, nat_tests, ne_eqb, new_ring, no_flips, no_op, none-some, not, not-false, not-true, number, option_map, or_cases, or_left, or_right, overlap, place_at, place_at-Data, place_at-Link, place_at-address_of, place_at-data, place_at-link, place_at-link_address, place_below, place_count, place_count_pos, place_of, position_given, position_given_is, positions_of, range_with_len, rank_most, refl, replicate, rest_all, rest_more, rules, same_words, set, slice_get, slice_index, split_sum, subst, suc, sum, sum_by-cons, sym, take, true, unwrap_or, with_cycle, zero, ℕ, ◌&&◌, ◌*◌, ◌++◌, ◌+◌, ◌-◌, ◌/◌, ◌<◌, ◌==◌, ◌||◌, ◌∙◌, ◌∷◌, ◌≡◌, ◌≢◌, ◌≤◌}
unfoldable pub use Rattle.ring_knowledge.proofs.Words.{are_given, are_ways_given, ceiling, crossings_given, descriptor_length, due_crossings, due_positions, first_not_given, flips_passed, given_count, has_no_room, is_border, is_declared_as, is_move, is_not_restored, is_not_whole, is_noted, is_placement, is_reached, is_step_given, is_stop_spot, is_target, is_way_given, leased_crossings, leased_positions, length_from, link_of, may_move_to, no_ops, positions_given, split_at, spots_between, stopped_number, unrestored}
