-- Words and lemmas, passed on to the files above them
pub use Rattle.segments.proofs.Crossings.{address_of-behind, crossed_link, crosses, crosses-from, crossing_at_end, crossing_positive, cycle_of-crossed, end_is, is_crossing-lap, link_address-behind, link_address-lap, link_address_is, link_target-crossed, same_crossing_at}
pub use Rattle.segments.proofs.DataPlaces.{IsPlace, block_is, byte_inside, length-links, link_aligned, link_ends, link_inside, link_is, links_apart, place_aligned, place_count_most, place_inside, place_is, place_not_link, places_apart}
pub use Rattle.segments.proofs.LowerLaws.{GivesMore, all_in_range, all_starts, are_apart_step, before-all, before-next, before-zero, before_rises, before_within, block_lies, cases_option, ceiling_held, crossing_due_from, crossing_due_is, due_from, due_is, each_starts, firsts_push, firsts_rise, given_below, given_count_least, given_count_same, given_count_still, given_count_stops, in_range_all, last_found, last_here, none_passes_at, nothing_starts, only_segment, place_count_more, places_of, position_nowhere, position_only, same_segment, same_words_is, segment_at, segment_found, shape_facts, step_from, step_is, unrestored_position, whole_from, whole_is, whole_more}
pub use Rattle.segments.proofs.Positions.{address_ends, address_of-lap, cycle_of-first, cycle_of-next, cycle_of_bit, cycle_of_flips, place_below, place_count_pos, place_of-next_lap, place_of-unmoved, same_position}
pub use Rattle.segments.proofs.Touching.{all_touch, nothing_touched, touched_last}
pub use Rattle.segments.proofs.Words.{All, All-cons, All-contains, All-get_or, All-head, All-map, All-nil, All-same, All-tail, All-take, All-weaker, Any-from_list_any, AreFirsts, AreMultiples, Block, Bool, Data, Declares, Evt, Holds, IsIndex, IsLastOf, IsLastStart, IsNear, IsNonDecreasingBy, IsNonDecreasingBy-from_sort_by_key, IsPartitionPoint, IsPartitionPoint-from_clause, IsPartitionedBy-leb, IsRestored, IsSegmentOf, IsShape, IsShownTo, IsSpot, Link, List, MayHold, MayReach, MayRestore, MayWithdraw, None, Opens, Option, Place, Pointer, Reaches, Restores, RingKeeps, RingKind, RingView, Segment, SegmentIndex, Shape, Some, Spot, Start, WalkReads, Withdraws, Writes, [], add-mod-mod, add-mul-mod_self_left, add-zero, address_of, after, aligned, and_from, and_parts, ap, are_apart, arith, before, behind, block_at, block_under, cases_Bool, cases_eq, cases_lt, changed, cond-false, cond-true, cons_option, cycle, cycle_of, data_count, data_of, data_place_at, data_places, declared, drop, eq-eqb, eqb-true, false, false_from_ne_true, false≢true, filter, filter_map, find, flat_map, floor_number, get_or, get_or_default, get_or_read, if◌then◌else◌, inl, inr, is_crossing, is_crossing_due, is_due, is_in, is_inside, is_link, is_set, is_shown, is_some, is_spot, kind, kind-with_cycle, laid, laid_between, le-leb, le-ltb, leb, leb-true, length, link_address, link_at, link_crossed, link_target, links, list_any, lt-ltb, ltb-true, map, min, mod-add-div, mod-eq_of_lt, mul_assoc, named_spot, nat_le, nat_lt, nat_tests, ne_eqb, new_ring, next, no_op, none-some, not, not-false, not-true, not_from_false, not_from_true, number, option_map, option_or, or_cases, or_left, or_parts, or_right, overlap, place_at, place_count, pointer, position-Some, range_with_len, rank, refl, replicate, rings_overlap, rules, same_Some, segment_has, segment_of, segments_overlap, slice_get, slice_get-get_or, slice_index, spot_address, spot_cycle, spots_from, standing, subst, suc, sum, sum_by-cons, sym, take, take-map, take_all, toggles, touches, true, unwrap_or, with_cycle, word, zero, ℕ, ◌%◌, ◌&&◌, ◌*◌, ◌++◌, ◌+◌, ◌-◌, ◌/◌, ◌<◌, ◌==◌, ◌^◌, ◌||◌, ◌∙◌, ◌∷◌, ◌≡◌, ◌≢◌, ◌≤◌, ◌⊎◌}
unfoldable pub use Rattle.segments.proofs.Words.{are_given, are_ways_given, ceiling, descriptor_length, given_count, is_border, is_data_below, is_declared_as, is_move, is_not_restored, is_not_whole, is_placement, is_reached, is_step_given, is_stop_spot, is_target, is_way_given, is_wrong_link, length_from, looks, may_move_to, named, no_ops, place_of, split_at, spots_between, stopped_number, target, unrestored, walk}
pub use Rattle.segments.proofs.Writing.{writes_more}
