-- The words of std, of the crates below and of this crate's own definitions that its proofs cite, passed on by one file
pub use Rattle.cycle_ring.specs.Links.{link_block, link_control}
pub use Rattle.cycle_ring.specs.Played.{BlocksStand, GivenLast, LinksStand, OthersStay, appended, played}
pub use Rattle.cycle_ring.specs.Progress.{IsAllowed, Progress, has_room}
pub use Rattle.cycle_ring.specs.RingRules.{AllMayWrite, AllWithoutInterrupt, FollowsPassed, IsEnqueuedSo, KeepTheRing, KeepsTheRing, MayBeDeclared, viewed}
pub use Rattle.cycle_ring.specs.Writes.{block_at_position, block_writes, control_write, later_writes, low_writes, way_writes, writes_of}
pub use Rattle.segments.proofs.Crossings.{crossed_link, crosses, crossing_positive, is_crossing-from, link_address_is, link_target-crossed, same_crossing, same_crossing_at}
pub use Rattle.segments.proofs.DataPlaces.{link_aligned, link_ends, links_apart, place_not_link}
pub use Rattle.segments.proofs.Declaring.{declares_keeps}
pub use Rattle.segments.proofs.DueLists.{crossing_given_is, leased_crossing_is, leased_position_is, no_flips, position_given_is}
pub use Rattle.segments.proofs.Giving.{Gives, GivesCrossing, crossing_due_from, due_from, due_is, gives_crossing_from, gives_crossing_is, gives_from, gives_is}
pub use Rattle.segments.proofs.MemoryWords.{put_elsewhere, put_here}
pub use Rattle.segments.proofs.PlaceAtLemmas.{place_at-address_of, place_at-link_address}
pub use Rattle.segments.proofs.Positions.{address_aligned, address_ends, cycle_of-first, cycle_of_bit, place_below, place_count_pos, same_place_of, same_position_near}
pub use Rattle.segments.proofs.Reaching.{reaches_keeps}
pub use Rattle.segments.proofs.Search.{cases_option}
pub use Rattle.segments.proofs.SpotOrder.{data_not_link}
pub use Rattle.segments.proofs.StepFacts.{step_from, whole_from}
pub use Rattle.segments.proofs.Words.{All-cons, All-contains_itself, All-head, All-nil, All-tail, All-weaker, Block, Contains-append_right, Declares, IsRestored, IsShape, MayDeclare, MayWrite, RingKeeps, RingKind, RingView, Shape, Writes, address_of, aligned, and_from, and_parts, block_at, cases_Bool, cases_lt, cases_order, changed, cond-false, cond-true, cycle_of, data_places, declared, false_from_ne_true, floor_number, gives, gives_crossing, is_crossing, is_crossing_due, is_due, is_link, is_set, kind, link_address, link_crossed, link_target, links, list_any, nat_tests, not_from_true, or_cases, or_left, or_parts, or_right, overlap, place_at, place_count, pointer, put, same, same_words, slice_get-get_or, slice_get_within, sum_by-cons, toggles, with_cycle, word}
unfoldable pub use Rattle.segments.proofs.Words.{crossings_given, descriptor_length, has_no_room, is_declared_as, is_not_declared, is_not_whole, is_other_than_declared, is_wrong_link, leads_wrong, leased_crossings, leased_positions, length_from, link_of, place_of, positions_given}
pub use Rattle.segments.proofs.Writing.{writes_keeps}
unfoldable pub use Rattle.segments.specs.Givings.{interrupts}
pub use Rattle.segments.specs.declared.place.Place.{Place}
pub use Rattle.segments.specs.declared.place.Place.TheVariants.{Data, Link}
pub use Rattle.std.proofs.Common.{All, Bool, Contains, List, None, Option, Some, [], ap, append_assoc, arith, drop, eq-eqb, eqb-true, false, get_or, inl, inr, is_some, length, length-append, lit<, lt-ltb, ltb-true, nat_le, nat_lt, ne_eqb, not, refl, rules, slice_get, slice_index, subst, suc, sum, sym, take, take-append-drop, true, unwrap_or, zero, ℕ, ◌%◌, ◌&&◌, ◌*◌, ◌++◌, ◌+◌, ◌-◌, ◌/◌, ◌<◌, ◌==◌, ◌^◌, ◌||◌, ◌∙◌, ◌∷◌, ◌≡◌, ◌≢◌, ◌≤◌, ◌⊎◌}
pub use Rattle.std.proofs.Math.Seq.{drop-append_seam}
pub use Rattle.std.proofs.lemmas.Grind.{common_steps}
pub use Rattle.std.proofs.lemmas.List.{take-append-le}
pub use Rattle.std.proofs.lemmas.List.Elements.{Contains-append_cases, Contains-append_left}
pub use Rattle.trb.proofs.BlockLemmas.{cycle-with_cycle}
pub use Rattle.trb.specs.Descriptor.{fault_of, is_bad_descriptor, is_badly_formed}
pub use Rattle.trb.specs.Kind.{is_command, is_left_out_command, is_transfer}
pub use Rattle.trb.specs.declared.fault.Fault.{Fault}
pub use Rattle.trb.specs.declared.fault.Fault.TheVariants.{BadDescriptor}
pub use Rattle.trb.specs.declared.kind.BlockKind.{BlockKind}
