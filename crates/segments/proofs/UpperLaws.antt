-- Words and lemmas, passed on to the files above them
pub use Rattle.segments.proofs.Elsewhere.{address_inside, link_address_inside}
pub use Rattle.segments.proofs.Lookups.{Sees, ahead_here, count_within, crossed_between, crossed_here, crossed_nowhere, first_is, near_from_last, outside_near, outside_none, past_all, past_before, place_here, place_nowhere, place_within, sees_from, segment_is}
pub use Rattle.segments.proofs.MiddleLaws.{GivesMore, address_ends, all_in_range, all_starts, all_touch, are_apart_step, before-next, before-zero, cases_option, crossed_link, crosses, crossing_due_from, cycle_of-crossed, cycle_of_bit, due_from, each_starts, firsts_push, firsts_rise, given_below, given_count_same, given_count_stops, in_range_all, last_found, last_here, link_address_is, link_ends, link_target-crossed, none_passes_at, nothing_starts, nothing_touched, only_segment, place_count_more, place_count_most, same_words_is, segment_at, segment_found, shape_facts, step_from, step_is, touched_last, unrestored_position, whole_from, whole_is, writes_more}
pub use Rattle.segments.proofs.NamedSpots.{IsNamed, named_spot-Some}
pub use Rattle.segments.proofs.PlaceAtLemmas.{place_at-Link}
pub use Rattle.segments.proofs.ReachedSpots.{number-after}
pub use Rattle.segments.proofs.Reaching.{crossed_due, floor_given, given_count_declared, given_count_near, kept_cycle}
pub use Rattle.segments.proofs.SpotOrder.{next_is_spot, next_later, next_least, rank_least, rank_most, same_rank, same_spot, spot_address-after, spot_cycle-after}
pub use Rattle.segments.proofs.Words.{All, All-cons, All-contains, All-get_or, All-head, All-map, All-nil, All-same, All-tail, All-take, All-weaker, Any-from_list_any, AreFirsts, AreMultiples, Block, Bool, Data, Declares, Evt, IsLastOf, IsLastStart, IsNear, IsNonDecreasingBy, IsNonDecreasingBy-from_sort_by_key, IsPartitionPoint, IsPartitionPoint-from_clause, IsPartitionedBy-leb, IsRestored, IsSegmentOf, IsShape, IsSpot, Link, List, MayHold, MayRestore, MayWithdraw, None, Pointer, Restores, RingKeeps, RingView, Shape, Some, Spot, Start, WalkReads, Withdraws, Writes, [], add-zero, address_of, after, aligned, and_from, and_parts, ap, are_apart, arith, before, behind, block_at, block_under, cases_Bool, cases_eq, cases_lt, changed, cond-false, cond-true, cons_option, cycle, cycle_of, data_count, data_of, declared, drop, eq-eqb, eqb-true, false, false_from_ne_true, false≢true, filter, filter_map, find, flat_map, floor_number, get_or, get_or_read, if◌then◌else◌, inl, inr, is_crossing, is_in, is_inside, is_link, is_set, is_shown, is_spot, kind, kind-with_cycle, laid, laid_between, le-ltb, leb, length, link_address, link_crossed, link_target, list_any, lt-ltb, ltb-true, map, min, mod-eq_of_lt, nat_lt, ne_eqb, next, no_op, none-some, not, not-false, not-true, not_from_false, not_from_true, number, option_map, or_cases, or_left, or_parts, or_right, overlap, place_at, place_count, pointer, range_with_len, rank, refl, replicate, rules, same_Some, segment_of, slice_get, slice_get-get_or, spot_address, spot_cycle, spots_from, standing, subst, suc, sum, sum_by-cons, sym, take, take-map, take_all, toggles, touches, true, unwrap_or, with_cycle, word, zero, ℕ, ◌%◌, ◌&&◌, ◌*◌, ◌++◌, ◌+◌, ◌-◌, ◌/◌, ◌<◌, ◌==◌, ◌^◌, ◌∙◌, ◌∷◌, ◌≡◌, ◌≢◌, ◌≤◌, ◌⊎◌}
unfoldable pub use Rattle.segments.proofs.Words.{are_given, are_ways_given, ceiling, descriptor_length, given_count, is_border, is_data_below, is_declared_as, is_move, is_not_restored, is_not_whole, is_placement, is_reached, is_step_given, is_target, is_way_given, is_wrong_link, length_from, looks, may_move_to, named, no_ops, place_of, split_at, spots_between, target, unrestored, walk}
