-- The words of std, of the crates below and of this crate's own definitions that its proofs cite, passed on by one file
pub use Rattle.event_ring.specs.EventPlaceValue.{EventState, dequeued_at, may_dequeue, may_post}
pub use Rattle.event_ring.specs.EventRing.{AreInOrder, EventCounts, erdp_address, has_room, is_reached_within, lists, position_from}
pub use Rattle.guest_memory.specs.Memory.{long_at}
pub use Rattle.segments.proofs.PlaceAtLemmas.{place_at-Data, place_at-address_of}
pub use Rattle.segments.proofs.Positions.{address_aligned, place_count_pos, same_position}
pub use Rattle.segments.proofs.ShapeFacts.{shape_facts}
pub use Rattle.segments.proofs.Words.{IsShape, Shape, add-mod_right, address_of, and_from, and_parts, cases_eq, cases_lt, data_places, false≢true, get_or-range_with_len, length-range_with_len, list_any, list_any_at, none-some, not-true, place_at, place_count, place_of, position_or_len, position_or_len_is, range_with_len, slice_get-get_or}
pub use Rattle.segments.specs.declared.place.Place.TheVariants.{Data, Link}
pub use Rattle.segments.specs.declared.segment.Segment.{Segment}
pub use Rattle.std.proofs.Common.{Bool, List, None, Some, [], ap, arith, drop, eq-eqb, false, find, get_or, inl, inr, le-leb, length, lt-ltb, nat_le, nat_lt, ne_eqb, not, refl, slice_get, slice_index, suc, sym, true, unwrap_or, ℕ, ◌%◌, ◌&&◌, ◌*◌, ◌+◌, ◌-◌, ◌/◌, ◌<◌, ◌==◌, ◌^◌, ◌∙◌, ◌∷◌, ◌≡◌, ◌≢◌, ◌≤◌}
pub use Rattle.std.proofs.lemmas.Bool.{and_right, lt-leb, or_from}
pub use Rattle.std.proofs.lemmas.List.{at_drop_more}
pub use Rattle.std.proofs.lemmas.List.Folds.{find_at}
