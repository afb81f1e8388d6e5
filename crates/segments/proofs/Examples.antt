-- Small rings, place by place
use Rattle.segments.proofs.Words.{range_with_len, Cmd, Evt, Xfer, Data, Link, Shape, shape_of, data_places, place_count, place_of, address_of, cycle_of, links, ends, link_crossed, link_address, link_target, toggles, is_inside, touches, place_at, is_shape, spot_address, spot_cycle, spots_from, named_spot, Writes, changed, is_due, is_crossing_due, new_ring, ◌≡◌, true, false, [], ◌∷◌, Some, None, map, refl, DataWord, LinkWord, views_on_literals}

-- two segments of three blocks
abbrev two : Shape
two = shape_of Xfer ((0x80000, 3) ∷ (0x81000, 3) ∷ [])

allowed : is_shape two ≡ true
allowed = refl

data_places_of_two : data_places two ≡ 0x80000 ∷ 0x80010 ∷ 0x81000 ∷ 0x81010 ∷ []
data_places_of_two = refl

links_of_two : links two ≡ 0x80020 ∷ 0x81020 ∷ []
links_of_two = refl

ends_of_two : ends two ≡ 2 ∷ 4 ∷ []
ends_of_two = refl

addresses : map (address_of two) (range_with_len 0 6) ≡ 0x80000 ∷ 0x80010 ∷ 0x81000 ∷ 0x81010 ∷ 0x80000 ∷ 0x80010 ∷ []
unfolding views_on_literals
addresses = refl

cycles : map (cycle_of two) (0 ∷ 3 ∷ 4 ∷ 7 ∷ 8 ∷ []) ≡ 1 ∷ 1 ∷ 0 ∷ 0 ∷ 1 ∷ []
unfolding views_on_literals
cycles = refl

crossings : map (link_crossed two) (range_with_len 0 9) ≡ None ∷ None ∷ Some 0 ∷ None ∷ Some 1 ∷ None ∷ Some 0 ∷ None ∷ Some 1 ∷ []
unfolding views_on_literals
crossings = refl

link_addresses : map (link_address two) (2 ∷ 4 ∷ 6 ∷ []) ≡ 0x80020 ∷ 0x81020 ∷ 0x80020 ∷ []
unfolding views_on_literals
link_addresses = refl

targets : map (link_target two) (0 ∷ 1 ∷ []) ≡ 0x81000 ∷ 0x80000 ∷ []
targets = refl

toggling : map (toggles two) (0 ∷ 1 ∷ []) ≡ false ∷ true ∷ []
toggling = refl

-- the spots of a lap, each with its address and the controller's cycle there
spots : spots_from two (Data 0) 7 ≡ Data 0 ∷ Data 1 ∷ Link 2 ∷ Data 2 ∷ Data 3 ∷ Link 4 ∷ Data 4 ∷ []
unfolding views_on_literals
spots = refl

spot_addresses : map (spot_address two) (spots_from two (Data 0) 7) ≡ 0x80000 ∷ 0x80010 ∷ 0x80020 ∷ 0x81000 ∷ 0x81010 ∷ 0x81020 ∷ 0x80000 ∷ []
unfolding views_on_literals
spot_addresses = refl

-- the last Link shows the cycle of the lap that it ends
spot_cycles : map (spot_cycle two) (spots_from two (Data 0) 7) ≡ 1 ∷ 1 ∷ 1 ∷ 1 ∷ 1 ∷ 1 ∷ 0 ∷ []
unfolding views_on_literals
spot_cycles = refl

-- an event names the least spot from the floor on, with a number up to what is declared
names_first : named_spot two (Data 0) 3 0x80000 ≡ Some (Data 0)
unfolding views_on_literals
names_first = refl

names_a_lap_later : named_spot two (Data 1) 4 0x80000 ≡ Some (Data 4)
unfolding views_on_literals
names_a_lap_later = refl

names_none_beyond : named_spot two (Data 1) 3 0x80000 ≡ None
unfolding views_on_literals
names_none_beyond = refl

names_a_link : named_spot two (Data 1) 3 0x80020 ≡ Some (Link 2)
unfolding views_on_literals
names_a_link = refl

names_no_passed_link : named_spot two (Data 2) 3 0x80020 ≡ None
unfolding views_on_literals
names_no_passed_link = refl

names_no_word_within : named_spot two (Data 0) 3 0x80004 ≡ None
unfolding views_on_literals
names_no_word_within = refl

-- words
data_word : place_at two 0x8101c ≡ Some (DataWord 3 3)
data_word = refl

link_word : place_at two 0x80024 ≡ Some (LinkWord 0 1)
link_word = refl

no_words : map (place_at two) (0x7fffc ∷ 0x80002 ∷ 0x80030 ∷ 0x81030 ∷ []) ≡ None ∷ None ∷ None ∷ None ∷ []
no_words = refl

bytes_around : map (is_inside two) (0x7ffff ∷ 0x80000 ∷ 0x8002f ∷ 0x80030 ∷ []) ≡ false ∷ true ∷ true ∷ false ∷ []
bytes_around = refl

ranges_around : (touches two 0x7fff0 16 ≡ false) × (touches two 0x7fff0 17 ≡ true) × (touches two 0x8002f 1 ≡ true) × (touches two 0x80030 0x0fd0 ≡ false)
ranges_around = (refl, refl, refl, refl)

-- with an offset of 2 the first lap begins in its middle, and the others come that much earlier
abbrev moved : Shape
moved = record two { offset = 2 }

moved_places : map (place_of moved) (range_with_len 0 7) ≡ 2 ∷ 3 ∷ 0 ∷ 1 ∷ 2 ∷ 3 ∷ 0 ∷ []
unfolding views_on_literals
moved_places = refl

moved_addresses : map (address_of moved) (range_with_len 0 5) ≡ 0x81000 ∷ 0x81010 ∷ 0x80000 ∷ 0x80010 ∷ 0x81000 ∷ []
unfolding views_on_literals
moved_addresses = refl

moved_cycles : map (cycle_of moved) (range_with_len 0 7) ≡ 1 ∷ 1 ∷ 0 ∷ 0 ∷ 0 ∷ 0 ∷ 1 ∷ []
unfolding views_on_literals
moved_cycles = refl

moved_crossings : map (link_crossed moved) (range_with_len 0 7) ≡ None ∷ None ∷ Some 1 ∷ None ∷ Some 0 ∷ None ∷ Some 1 ∷ []
unfolding views_on_literals
moved_crossings = refl

-- an event ring has data places alone
abbrev events : Shape
events = shape_of Evt ((0x20000, 16) ∷ [])

event_ring : (is_shape events ≡ true) × (place_count events ≡ 16) × (links events ≡ []) × (link_crossed events 16 ≡ None)
event_ring = (refl, refl, refl, refl)

event_positions : map (address_of events) (0 ∷ 15 ∷ 16 ∷ []) ≡ 0x20000 ∷ 0x200f0 ∷ 0x20000 ∷ []
unfolding views_on_literals
event_positions = refl

-- refused: 15 event blocks, a segment across 64 KB, one data place, segments that overlap, a base off its boundary
refused : map is_shape (shape_of Evt ((0x20000, 15) ∷ []) ∷ shape_of Xfer ((0xfff0, 4) ∷ []) ∷ shape_of Xfer ((0x80000, 2) ∷ [])
    ∷ shape_of Xfer ((0x80000, 3) ∷ (0x80020, 3) ∷ []) ∷ shape_of Cmd ((0x80010, 3) ∷ []) ∷ []) ≡ false ∷ false ∷ false ∷ false ∷ false ∷ []
refused = refl

-- one ring alone: a block is given by its control word, a write with the other Cycle bit gives nothing
given_by_control_word : ((changed two (changed two new_ring (Writes 0x80000 0x1234)) (Writes 0x8000c 0x2021)).given 0 ≡ true) × ((changed two new_ring (Writes 0x8000c 0x2020)).given 0 ≡ false)
unfolding views_on_literals
given_by_control_word = (refl, refl)

-- the Link at a lap's end is due at once at the floor 0, and later only from the lap on
first_lap_end : (is_crossing_due two (Data 0) 4 ≡ true) × (is_crossing_due two (Data 0) 6 ≡ false) × (is_crossing_due two (Data 2) 6 ≡ false) × (is_crossing_due two (Data 3) 6 ≡ true)
unfolding views_on_literals
first_lap_end = (refl, refl, refl, refl)

-- a place is due for one position: the least there from the floor on
due_a_lap_later : (is_due two (Data 1) 0 ≡ false) × (is_due two (Data 1) 4 ≡ true) × (is_due two (Data 0) 4 ≡ false)
due_a_lap_later = (refl, refl, refl)
