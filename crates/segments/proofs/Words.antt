-- The words of std, of the crates below and of this crate's own definitions that its proofs cite, passed on by one file
pub use Rattle.guest_memory.specs.Memory.{put}
unfoldable pub use Rattle.segments.specs.Ceiling.{ceiling, first_not_given, given_count, is_data_below, is_step_given, is_stop_spot, is_way_given, named, stopped_number}
pub use Rattle.segments.specs.Descriptors.{no_op}
unfoldable pub use Rattle.segments.specs.Descriptors.{is_border, length_from, no_ops, split_at}
pub use Rattle.segments.specs.Givings.{same}
unfoldable pub use Rattle.segments.specs.Givings.{descriptor_length, flips_passed, has_no_room, is_declared_as, is_not_declared, is_not_restored, is_not_whole, is_other_than_declared, is_wrong_link, leads_wrong, link_of, unrestored}
pub use Rattle.segments.specs.Index.{AreFirsts, AreMultiples, AreStarts, IsIndex, IsLastOf, IsLastStart, IsNear, IsSegmentOf, IsStart, before}
unfoldable pub use Rattle.segments.specs.Moves.{are_given, are_ways_given, is_move, is_placement, is_reached, is_target, may_move_to, spots_between, target}
unfoldable pub use Rattle.segments.specs.OnLiterals.{views_on_literals}
pub use Rattle.segments.specs.PlaceAt.{data_place_at, link_at, place_at}
pub use Rattle.segments.specs.Places.{address_of, blocks_from, cycle_of, data_count, data_places, ends, ends_from, ends_of, is_crossing, is_in, is_inside, link_address, link_crossed, link_target, links, links_of, overlap, place_count, segment_has, toggles, touches}
unfoldable pub use Rattle.segments.specs.Places.{lap_of, place_of}
pub use Rattle.segments.specs.RingKeeps.{IsRestored, IsShownTo, MayDeclare, MayHold, MayReach, MayRestore, MayWithdraw, MayWrite, RingKeeps}
pub use Rattle.segments.specs.RingView.{Declares, Holds, Opens, Reaches, Restores, RingView, Withdraws, Writes, changed, declared, floor_number, gives, gives_crossing, is_crossing_due, is_due, is_handed_over, new_ring}
unfoldable pub use Rattle.segments.specs.RingView.{crossings_given, due_crossings, due_positions, leased_crossings, leased_positions, positions_given}
pub use Rattle.segments.specs.Shape.{IsShape, alignment, are_apart, is_segment, is_shape, least_count, rings_overlap, segments_overlap}
pub use Rattle.segments.specs.ShapeValue.{Shape, segment_of, shape_of}
pub use Rattle.segments.specs.Spots.{IsSpot, after, is_spot, named_spot, next, number, rank, spot_address, spot_cycle, spots_from}
pub use Rattle.segments.specs.Walk.{Pointer, WalkReads, behind, block_under, data_of, is_shown, laid, laid_between, standing}
unfoldable pub use Rattle.segments.specs.Walk.{looks, walk}
pub use Rattle.segments.specs.declared.index.SegmentIndex.{SegmentIndex}
pub use Rattle.segments.specs.declared.index.Start.{Start}
pub use Rattle.segments.specs.declared.place.Place.{Place}
pub use Rattle.segments.specs.declared.place.Place.TheVariants.{Data as DataWord, Link as LinkWord}
pub use Rattle.segments.specs.declared.segment.Segment.{Segment}
pub use Rattle.segments.specs.declared.spot.Spot.{Spot}
pub use Rattle.segments.specs.declared.spot.Spot.TheVariants.{Data, Link}
pub use Rattle.std.proofs.Common.{All, Bool, Contains, List, None, Option, Some, [], add-one, add-zero, ap, append-nil, arith, drop, eq-eqb, eqb-true, false, filter, find, get_or, if◌then◌else◌, inl, inr, is_some, le-leb, le-ltb, leb, leb-false, leb-true, length, length-append, lt-ltb, ltb-false, ltb-true, map, nat_le, nat_lt, ne_eqb, not, position, refl, replicate, rules, slice_get, slice_index, subst, suc, sum, sym, take, take_all, true, unwrap_or, zero, zero-add, ℕ, ◌%◌, ◌&&◌, ◌*◌, ◌++◌, ◌+◌, ◌-◌, ◌/◌, ◌<◌, ◌==◌, ◌^◌, ◌||◌, ◌∙◌, ◌∷◌, ◌≡◌, ◌≢◌, ◌≤◌, ◌⊎◌}
pub use Rattle.std.proofs.Math.Nat.{add-div_right, add-mod-mod, add-mod_right, add-mul-mod_self_left, div-add-mod, div-add-mod', div-eq_of_lt, mod-add-div, mod-eq_of_lt, mod-lt, mod_self, mul-add-div_right, mul_assoc}
pub use Rattle.std.proofs.lemmas.Bool.{and_from, and_parts, cases_Bool, cases_eq, cases_lt, cases_order, cond-false, cond-true, false_from_ne_true, false≢true, not-false, not-true, not_from_false, not_from_true, or_cases, or_left, or_parts, or_right}
pub use Rattle.std.proofs.lemmas.Bool.Decides.{nat_tests}
pub use Rattle.std.proofs.lemmas.List.{drop_more, get_or-append_right, get_or-map, get_or_append_left, get_or_default, get_or_read, length-map, map_push, take-map, take_more, take_rest}
pub use Rattle.std.proofs.lemmas.List.Concat.{flat_map-append}
pub use Rattle.std.proofs.lemmas.List.Elements.{All-cons, All-contains, All-contains_itself, All-filter, All-get_or, All-head, All-map, All-nil, All-push, All-same, All-tail, All-take, All-weaker, Contains-append_right, Contains-get_or, filter_passes}
pub use Rattle.std.proofs.lemmas.List.Folds.{Any-from_list_any, list_all-map, list_all_at, list_any_at, list_any_none}
pub use Rattle.std.proofs.lemmas.List.FromFn.{get_or-range_with_len, length-range_with_len}
pub use Rattle.std.proofs.lemmas.List.Quantifiers.{position-Some}
pub use Rattle.std.proofs.lemmas.List.Sorted.{All-permutation, IsNonDecreasingBy-from_default, IsNonDecreasingBy-from_sort_by_key, IsPartitionPoint-from_clause, IsPartitionedBy-leb, list_any-IsPermutation}
pub use Rattle.std.proofs.lemmas.List.Sums.{fails_before_first, position_or_len_is, sum_by-cons, sum_by_push}
pub use Rattle.std.proofs.lemmas.Nat.{div-mul-add, mod-mul-add, mul-le}
pub use Rattle.std.proofs.lemmas.Option.{get_or_from_slice_get, none-some, same_Some, slice_get-get_or, slice_get_within}
pub use Rattle.std.specs.List.{cons_option, filter_map, flat_map, list_all, list_any, position_or_len, range_with_len, sum_by}
pub use Rattle.std.specs.List.Sorted.{IsNonDecreasingBy, IsPartitionPoint, IsPermutation}
pub use Rattle.std.specs.Option.{option_map, option_or}
pub use Rattle.std.specs.Prelude.{min}
pub use Rattle.trb.proofs.BlockLemmas.{kind-with_cycle}
pub use Rattle.trb.specs.Bits.{is_set}
pub use Rattle.trb.specs.Block.{aligned, block_at, cycle, kind, pointer, same_words, with_cycle, word}
pub use Rattle.trb.specs.Kind.{is_link}
pub use Rattle.trb.specs.declared.block.Block.{Block}
pub use Rattle.trb.specs.declared.ring_kind.RingKind.{RingKind}
pub use Rattle.trb.specs.declared.ring_kind.RingKind.TheVariants.{Cmd, Evt, Xfer}
