-- Before the first row the event segments are under lease, and nothing else
use Rattle.leases.proofs.LowerLaws.{and_false, ◌≡◌, ◌*◌, ◌++◌, ◌∙◌, ℕ, [], map, subst, sym, ap, refl, append-nil, is_crossing, due_crossings, due_positions, leased_crossings, leased_positions, is_handed_over, new_ring, Segment, Header, Ring, Erstba, driver_rings, event_shape, nothing, Leased, Range, EventSegment, context_ranges, device_ranges, entry_ranges, open_leases, open_on, open_ranges, range_of_device, range_of_entry, segment_ranges, slots, table_range, as_lease, in_order, without_end, IsIn, IndexTables, begun_at, in_turn, lease_of, lents, with_begun, AllUnended, IsFound, segment_lease, rules, filter_none, map_map, sorted, all_new, from_turn, flat_none, from_map, IsRange, all_anew}
use Rattle.ring_knowledge.specs.Rings as rings

module _ (h : Header) where
  none_on : (r : Ring) → open_on h nothing r ≡ []
  unfolding open_on nothing leased_positions leased_crossings
  none_on r = search (rules, filter_none, is_handed_over, new_ring, due_positions, is_crossing, due_crossings, and_false)

  no_entries : entry_ranges nothing ≡ []
  unfolding entry_ranges nothing range_of_entry
  no_entries = flat_none (λ s. []) slots (λ s. refl)

  no_devices : device_ranges h nothing ≡ []
  unfolding device_ranges nothing range_of_device
  no_devices = flat_none (λ s. []) slots (λ s. refl)

  no_table : table_range h (nothing.register Erstba) ≡ []
  unfolding nothing table_range
  no_table = refl

  ranges_at_first : open_ranges h nothing ≡ segment_ranges h
  unfolding open_ranges context_ranges rings.unfinished_positions nothing
  ranges_at_first = rw (no_table, nothing, filter_none, new_ring, no_entries, no_devices) (append-nil _ ∙ append-nil _ ∙ append-nil _ ∙ append-nil (segment_ranges h))

  pub open_at_first : open_leases h nothing ≡ segment_ranges h
  unfolding open_leases
  open_at_first = ap (λ ls. ls ++ open_ranges h nothing) (flat_none (open_on h nothing) (driver_rings h) none_on) ∙ ranges_at_first

  -- the book at first
  pub first_list : (first : ℕ) → in_order (map segment_lease (event_shape h).segments) ≡ map lease_of (lents h first [])
  unfolding lents with_begun segment_lease segment_ranges begun_at lease_of
  first_list first =
      ap in_order (sym (map_map (λ l. as_lease 0 without_end l) (λ (s : Segment). Range (16 * s.count) s.base EventSegment) (event_shape h).segments))
      ∙ sorted 0 (λ l. without_end) (segment_ranges h)
      ∙ ap (λ ls. map (λ l. as_lease 0 without_end l) (in_turn ls)) (sym open_at_first)
      ∙ sym (map_map lease_of (begun_at 0) (in_turn (open_leases h nothing)))

  segments_are : (l : Leased) → IsIn l (segment_ranges h) → IsRange l
  unfolding segment_ranges
  segments_are l at = search (rules, from_map)

  -- what stands before the first row are ranges
  pub first_are_ranges : (l : Leased) → IsIn l (in_turn (open_leases h nothing)) → IsRange l
  first_are_ranges l at = segments_are l (subst (IsIn l) open_at_first (from_turn (open_leases h nothing) l at))

  pub first_found : (first : ℕ) (blocks links : IndexTables) → AllUnended (IsFound h blocks links) 0 (lents h first [])
  unfolding lents with_begun
  first_found first blocks links =
      all_anew (λ i l. IsRange l) (IsFound h blocks links) 0 (map (begun_at 0) (in_turn (open_leases h nothing))) found
      (all_new IsRange 0 0 (in_turn (open_leases h nothing)) first_are_ranges)
    where
      found : (i : ℕ) (l : Leased) → IsRange l → IsFound h blocks links i l
      found i (Range n a e) is = tt
      found i _ is = absurd is
