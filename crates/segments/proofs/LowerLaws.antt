-- Words and lemmas, passed on to the files above them
pub use Rattle.segments.proofs.Blocks.{LiesAt, before-all, before-next, before-zero, before_within, block_lies, length-places_of-cons, place_lies, places_of, same_segment, segment_at}
pub use Rattle.segments.proofs.DueLists.{crossing_given, leased_crossing, leased_position, none_passes_at, position_given, unrestored_position}
pub use Rattle.segments.proofs.GivenCount.{ceiling_held, given_below, given_count_grows, given_count_least, given_count_same, given_count_still, given_count_stops}
pub use Rattle.segments.proofs.Giving.{crossing_due_from, crossing_due_is, due_from, due_is, gives_crossing_from, gives_crossing_is, gives_from, gives_is}
pub use Rattle.segments.proofs.IndexSearch.{all_starts, before_rises, each_starts, firsts_push, firsts_rise, last_found, last_here, nothing_starts, only_segment, segment_found}
pub use Rattle.segments.proofs.MemoryWords.{SameBlock, block_same, put_elsewhere, put_here, same_apart, same_words_is}
pub use Rattle.segments.proofs.Pairs.{are_apart_step, place_count_more}
pub use Rattle.segments.proofs.Search.{cases_option, position_nowhere, position_only}
pub use Rattle.segments.proofs.ShapeFacts.{IsSegment, shape_facts}
pub use Rattle.segments.proofs.StepFacts.{GivesMore, all_in_range, in_range_all, length_from-push, step_from, step_is, step_more, whole_from, whole_is, whole_more}
pub use Rattle.segments.proofs.Words.{All, All-cons, All-contains, All-get_or, All-head, All-map, All-nil, All-push, All-same, All-tail, All-take, All-weaker, Any-from_list_any, AreFirsts, AreMultiples, Block, Bool, Cmd, Data, Declares, Evt, Holds, IsIndex, IsLastOf, IsLastStart, IsNear, IsNonDecreasingBy, IsNonDecreasingBy-from_sort_by_key, IsPartitionPoint, IsPartitionPoint-from_clause, IsPartitionedBy-leb, IsRestored, IsSegmentOf, IsShape, IsShownTo, IsSpot, Link, List, MayDeclare, MayHold, MayReach, MayRestore, MayWithdraw, MayWrite, None, Opens, Option, Place, Pointer, Reaches, Restores, RingKeeps, RingKind, RingView, Segment, SegmentIndex, Shape, Some, Spot, Start, WalkReads, Withdraws, Writes, Xfer, [], add-div_right, add-mod-mod, add-mod_right, add-mul-mod_self_left, add-one, add-zero, address_of, after, aligned, and_from, and_parts, ap, are_apart, arith, before, behind, block_at, block_under, cases_Bool, cases_eq, cases_lt, cases_order, changed, cond-false, cond-true, cons_option, cycle, cycle_of, data_count, data_of, data_place_at, data_places, declared, div-add-mod, div-add-mod', div-eq_of_lt, div-mul-add, drop, ends, ends_from, ends_of, eq-eqb, eqb-true, false, false_from_ne_true, false≢true, filter, filter_map, find, flat_map, floor_number, get_or, get_or-append_right, get_or-map, get_or_append_left, get_or_default, get_or_from_slice_get, get_or_read, gives, gives_crossing, if◌then◌else◌, inl, inr, is_crossing, is_crossing_due, is_due, is_in, is_inside, is_link, is_set, is_shown, is_some, is_spot, kind, kind-with_cycle, laid, laid_between, le-leb, le-ltb, leb, leb-false, leb-true, length, length-append, length-map, link_address, link_at, link_crossed, link_target, links, links_of, list_any, list_any_at, list_any_none, lt-ltb, ltb-false, ltb-true, map, min, mod-add-div, mod-eq_of_lt, mod-lt, mod-mul-add, mod_self, mul-add-div_right, mul-le, mul_assoc, named_spot, nat_le, nat_lt, nat_tests, ne_eqb, new_ring, next, no_op, none-some, not, not-false, not-true, not_from_false, not_from_true, number, option_map, option_or, or_cases, or_left, or_parts, or_right, overlap, place_at, place_count, pointer, position, position-Some, put, range_with_len, rank, refl, replicate, rings_overlap, rules, same_Some, segment_has, segment_of, segments_overlap, slice_get, slice_get-get_or, slice_get_within, slice_index, spot_address, spot_cycle, spots_from, standing, subst, suc, sum, sum_by-cons, sum_by_push, sym, take, take-map, take_all, toggles, touches, true, unwrap_or, with_cycle, word, zero, ℕ, ◌%◌, ◌&&◌, ◌*◌, ◌++◌, ◌+◌, ◌-◌, ◌/◌, ◌<◌, ◌==◌, ◌^◌, ◌||◌, ◌∙◌, ◌∷◌, ◌≡◌, ◌≢◌, ◌≤◌, ◌⊎◌}
unfoldable pub use Rattle.segments.proofs.Words.{are_given, are_ways_given, ceiling, crossings_given, descriptor_length, due_positions, flips_passed, given_count, has_no_room, is_border, is_data_below, is_declared_as, is_move, is_not_declared, is_not_restored, is_not_whole, is_other_than_declared, is_placement, is_reached, is_step_given, is_stop_spot, is_target, is_way_given, is_wrong_link, lap_of, leads_wrong, leased_crossings, leased_positions, length_from, link_of, looks, may_move_to, named, no_ops, place_of, positions_given, split_at, spots_between, stopped_number, target, unrestored, walk}
