-- The words of std, of the crates below and of this crate's own definitions that its proofs cite, passed on by one file
pub use Rattle.ring_knowledge.specs.Known.{Known}
unfoldable pub use Rattle.ring_knowledge.specs.Known.{nothing}
pub use Rattle.ring_knowledge.specs.Marks.{AreCleared}
unfoldable pub use Rattle.ring_knowledge.specs.Marks.{is_noted}
pub use Rattle.ring_knowledge.specs.RegisterRecords.{FollowsRegisters, FollowsRun}
unfoldable pub use Rattle.ring_knowledge.specs.Histories.{forgotten, gone}
unfoldable pub use Rattle.ring_knowledge.specs.Registers.{register_read, register_written, run_or_stop, runs_again, runs_once, status_read, valued}
unfoldable pub use Rattle.ring_knowledge.specs.Resets.{behind_blocks, first_free, given_up, held_at_given, reset}
pub use Rattle.ring_knowledge.specs.RingRecords.{ArePositive, AreWholeBelow, FollowsMarks, FollowsRing, IsFromFloor, IsNotPassed, crossings_of, is_the, least_crossing, positions_of}
pub use Rattle.ring_knowledge.specs.SpotsAt.{IsFirstAt}
pub use Rattle.ring_knowledge.specs.declared.register_record.RegisterRecord.{RegisterRecord}
pub use Rattle.ring_knowledge.specs.declared.ring_record.RingGiving.{RingGiving}
pub use Rattle.ring_knowledge.specs.declared.ring_record.RingGiving.TheVariants.{Crossing, Position}
pub use Rattle.ring_knowledge.specs.declared.ring_record.RingRecord.{RingRecord}
pub use Rattle.segments.proofs.Blocks.{before, before-next, segment_at}
pub use Rattle.segments.proofs.Crossings.{crossed_link, crosses, crosses-from, crossing_positive, end_in_lap, end_is, is_crossing-from, link_address_is, link_crossed-lap, same_crossing, same_crossing_at}
pub use Rattle.segments.proofs.DataPlaces.{block_is, link_aligned}
pub use Rattle.segments.proofs.DueLists.{crossing_given, crossing_given_is, no_flips, position_given, position_given_is}
pub use Rattle.segments.proofs.Giving.{gives_is}
pub use Rattle.segments.proofs.MoveTargets.{between}
pub use Rattle.segments.proofs.Named.{found_is}
pub use Rattle.segments.proofs.NamedSpots.{IsNamed, named_spot-Some, named_spot-is}
pub use Rattle.segments.proofs.PlaceAtLemmas.{place_at-Data, place_at-Link, place_at-None, place_at-None_link, place_at-address_of, place_at-data, place_at-link, place_at-link_address}
pub use Rattle.segments.proofs.Positions.{address_aligned, cycle_of_bit, place_below, place_count_pos, place_of-ahead, place_of-ahead_lap, place_of-lap, same_in_lap_of, same_position}
pub use Rattle.segments.proofs.Search.{cases_option}
pub use Rattle.segments.proofs.SpotOrder.{after_is, data_not_link, rank_least, rank_most, same_spot}
pub use Rattle.segments.proofs.StepFacts.{all_in_range, in_range_all, length_from-push}
pub use Rattle.segments.proofs.Withdrawing.{length-no_ops, split_sum}
pub use Rattle.segments.proofs.Words.{All-head, All-tail, All-weaker, Block, Declares, Holds, IsShape, IsSpot, Opens, Reaches, Restores, RingView, Shape, Withdraws, Writes, address_of, after, and_from, and_parts, cases_Bool, cases_eq, cases_lt, changed, cond-false, cond-true, cycle_of, data_count, data_places, declared, ends, false_from_ne_true, false≢true, flat_map, floor_number, gives, gives_crossing, is_crossing, is_crossing_due, is_due, is_handed_over, is_in, is_spot, length-map, link_address, link_crossed, links, list_all, list_any, named_spot, nat_tests, new_ring, no_op, none-some, number, or_cases, or_left, or_right, overlap, place_at, place_count, place_of, range_with_len, rank, spot_address, spot_cycle, sum_by-cons}
unfoldable pub use Rattle.segments.proofs.Words.{are_given, are_ways_given, ceiling, crossings_given, descriptor_length, due_crossings, due_positions, first_not_given, flips_passed, given_count, has_no_room, is_border, is_declared_as, is_move, is_not_restored, is_not_whole, is_reached, is_step_given, is_stop_spot, is_target, is_way_given, leased_crossings, leased_positions, length_from, link_of, may_move_to, named, no_ops, positions_given, split_at, spots_between, stopped_number, target, unrestored}
unfoldable pub use Rattle.segments.specs.Ceiling.{data_at, is_open, named_data}
unfoldable pub use Rattle.segments.specs.Moves.{is_placement}
pub use Rattle.segments.specs.declared.place.Place.{Place}
pub use Rattle.segments.specs.declared.place.Place.TheVariants.{Data as AtData, Link as AtLink}
pub use Rattle.segments.specs.declared.segment.Segment.{Segment}
pub use Rattle.segments.specs.declared.spot.Spot.{Spot}
pub use Rattle.segments.specs.declared.spot.Spot.TheVariants.{Data, Link}
pub use Rattle.std.proofs.Common.{All, Bool, Contains, IfSome, List, None, Option, Some, [], ap, arith, cond, drop, eq-eqb, eqb-true, false, filter, find, get_or, get_or-set_other, get_or-set_same, if◌then◌else◌, inl, inr, is_some, le-leb, le-ltb, leb-true, length, length-append, lt-ltb, ltb-false, ltb-true, max, min, nat_le, nat_lt, ne_eqb, not, option_map, refl, replicate, rules, set, slice_index, subst, suc, sum, sym, take, true, zero, ℕ, ◌%◌, ◌&&◌, ◌*◌, ◌++◌, ◌+◌, ◌-◌, ◌/◌, ◌<◌, ◌==◌, ◌^◌, ◌||◌, ◌∙◌, ◌∷◌, ◌≡◌, ◌≢◌, ◌≤◌}
pub use Rattle.std.proofs.Math.ListN.{length-set}
pub use Rattle.std.proofs.lemmas.Bool.{and_right, both_ways, eqb-false, lt-leb, not-false, not-true, or_parts}
pub use Rattle.std.proofs.lemmas.Grind.{common_steps}
pub use Rattle.std.proofs.lemmas.List.Kept.{IsStrictlySortedBy-filter}
pub use Rattle.std.proofs.lemmas.Map.Iter.{rest_all, rest_more}
pub use Rattle.std.proofs.lemmas.Map.Lookups.{btree_set_from_contains, exact_unsigned}
pub use Rattle.std.proofs.lemmas.Map.Views.{any-filter_same}
pub use Rattle.std.specs.BTreeMap.{is_at}
pub use Rattle.std.specs.BTreeSet.{BTreeSet, IsOrdered, contains}
pub use Rattle.std.specs.Cmp.{nat_cmp_total}
pub use Rattle.std.specs.List.{AllByRecursion}
pub use Rattle.std.specs.Map.Iter.{deref}
pub use Rattle.std.specs.Ordering.{nat_cmp}
pub use Rattle.std.specs.Prelude.{MatchOption, is_none, slice_get, unwrap_or}
pub use Rattle.std.specs.declared.cmp.Ordering.TheVariants.{Less}
pub use Rattle.traces.specs.Register.{ordinal, reset_bit, run_bit, with_register}
pub use Rattle.traces.specs.declared.header.Header.{Header}
pub use Rattle.traces.specs.declared.register.Register.{Register}
pub use Rattle.traces.specs.declared.register.Register.TheVariants.{Crcr, Usbcmd}
pub use Rattle.traces.specs.declared.halt.Halt.TheVariants.{Asked, Done, Not}
pub use Rattle.trb.specs.Block.{block_at, has_value, same_words, with_cycle}
unfoldable pub use Rattle.traces.specs.Header.{command_id}
