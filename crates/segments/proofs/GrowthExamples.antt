-- Rings of one segment of four blocks that grow by one of three, place by place: in their first lap, and in their third
use Rattle.segments.proofs.Words.{range_with_len, Xfer, Segment, Shape, shape_of, segment_of, data_places, place_count, address_of, cycle_of, links, ends, link_crossed, link_address, link_target, toggles, is_shape, ◌≡◌, ◌∷◌, ℕ, List, true, false, [], Some, None, map, refl}
use Rattle.segments.specs.Growth.{grown}
use Rattle.segments.specs.Places.{lap_of, place_of}

abbrev one : Shape
one = shape_of Xfer ((0x80000, 4) ∷ [])

abbrev more : List Segment
more = segment_of (0x90000, 3) ∷ []

-- the Link of the one segment is crossed on the way to positions 3, 6 and 9
crossings : map (link_crossed one) (range_with_len 0 10) ≡ None ∷ None ∷ None ∷ Some 0 ∷ None ∷ None ∷ Some 0 ∷ None ∷ None ∷ Some 0 ∷ []
unfolding place_of
crossings = refl

-- ---- in the first lap, at position 3

abbrev early : Shape
early = grown one 0 more 3

early_shape : (is_shape early ≡ true) × (early.offset ≡ 0) × (place_count early ≡ 5)
unfolding grown lap_of
early_shape = (refl, refl, refl)

early_places : data_places early ≡ 0x80000 ∷ 0x80010 ∷ 0x80020 ∷ 0x90000 ∷ 0x90010 ∷ []
unfolding grown
early_places = refl

early_links : (links early ≡ 0x80030 ∷ 0x90020 ∷ []) × (ends early ≡ 3 ∷ 5 ∷ [])
unfolding grown
early_links = (refl, refl)

-- the new places come behind the first three, in the lap that goes on; then the second lap begins
early_addresses : map (address_of early) (range_with_len 0 7) ≡ 0x80000 ∷ 0x80010 ∷ 0x80020 ∷ 0x90000 ∷ 0x90010 ∷ 0x80000 ∷ 0x80010 ∷ []
unfolding grown place_of lap_of
early_addresses = refl

early_cycles : map (cycle_of early) (range_with_len 0 11) ≡ 1 ∷ 1 ∷ 1 ∷ 1 ∷ 1 ∷ 0 ∷ 0 ∷ 0 ∷ 0 ∷ 0 ∷ 1 ∷ []
unfolding grown lap_of
early_cycles = refl

early_crossings : map (link_crossed early) (range_with_len 0 11) ≡ None ∷ None ∷ None ∷ Some 0 ∷ None ∷ Some 1 ∷ None ∷ None ∷ Some 0 ∷ None ∷ Some 1 ∷ []
unfolding grown place_of lap_of
early_crossings = refl

-- its Link, which toggled the cycle, leads to the new segment, and the new one's toggles
early_targets : (map (link_target early) (0 ∷ 1 ∷ []) ≡ 0x90000 ∷ 0x80000 ∷ []) × (map (toggles early) (0 ∷ 1 ∷ []) ≡ false ∷ true ∷ [])
unfolding grown
early_targets = (refl, refl)

-- ---- in the third lap, at position 9

abbrev late : Shape
late = grown one 0 more 9

-- two new places for each of the two laps before
late_shape : (is_shape late ≡ true) × (late.offset ≡ 4) × (place_count late ≡ 5)
unfolding grown lap_of
late_shape = (refl, refl, refl)

-- positions 6 to 8 are where they were, in the third lap
late_addresses : map (address_of late) (range_with_len 6 6) ≡ 0x80000 ∷ 0x80010 ∷ 0x80020 ∷ 0x90000 ∷ 0x90010 ∷ 0x80000 ∷ []
unfolding grown place_of lap_of
late_addresses = refl

late_cycles : map (cycle_of late) (range_with_len 6 6) ≡ 1 ∷ 1 ∷ 1 ∷ 1 ∷ 1 ∷ 0 ∷ []
unfolding grown lap_of
late_cycles = refl

late_crossings : map (link_crossed late) (range_with_len 7 5) ≡ None ∷ None ∷ Some 0 ∷ None ∷ Some 1 ∷ []
unfolding grown place_of lap_of
late_crossings = refl

late_link_addresses : map (link_address late) (9 ∷ 11 ∷ []) ≡ 0x80030 ∷ 0x90020 ∷ []
unfolding grown place_of lap_of
late_link_addresses = refl

-- ---- between two segments, in the second lap, at position 6

abbrev between : Shape
between = grown (shape_of Xfer ((0x80000, 3) ∷ (0x81000, 3) ∷ [])) 0 more 6

-- position 3 is where it was, at the end of the first lap
between_addresses : map (address_of between) (range_with_len 3 8) ≡ 0x81010 ∷ 0x80000 ∷ 0x80010 ∷ 0x90000 ∷ 0x90010 ∷ 0x81000 ∷ 0x81010 ∷ 0x80000 ∷ []
unfolding grown place_of lap_of
between_addresses = refl

between_cycles : map (cycle_of between) (range_with_len 3 8) ≡ 1 ∷ 0 ∷ 0 ∷ 0 ∷ 0 ∷ 0 ∷ 0 ∷ 1 ∷ []
unfolding grown lap_of
between_cycles = refl

-- the Link of the second segment is the last one, as it was, and has another number
between_crossings : map (link_crossed between) (range_with_len 4 7) ≡ Some 2 ∷ None ∷ Some 0 ∷ None ∷ Some 1 ∷ None ∷ Some 2 ∷ []
unfolding grown place_of lap_of
between_crossings = refl

between_targets : (map (link_target between) (0 ∷ 1 ∷ 2 ∷ []) ≡ 0x90000 ∷ 0x81000 ∷ 0x80000 ∷ []) × (map (toggles between) (0 ∷ 1 ∷ 2 ∷ []) ≡ false ∷ false ∷ true ∷ [])
unfolding grown
between_targets = (refl, refl)

-- ---- refused: a new segment that overlaps the ring's, two that overlap, one off its boundary

refused : map (λ new. is_shape (grown one 0 (map segment_of new) 3)) (((0x80030, 3) ∷ []) ∷ ((0x90000, 3) ∷ (0x90020, 3) ∷ []) ∷ ((0x90008, 3) ∷ []) ∷ []) ≡ false ∷ false ∷ false ∷ []
unfolding grown
refused = refl
