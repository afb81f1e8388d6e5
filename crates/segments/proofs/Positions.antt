-- Positions from lap to lap: their places, addresses and Cycle bits, xHCI 4.9.2
use Rattle.segments.proofs.LowerLaws.{◌≡◌, ◌≢◌, ◌+◌, ◌-◌, ◌*◌, ◌/◌, ◌%◌, ◌^◌, ◌<◌, ◌≤◌, ℕ, slice_index, arith, ap, refl, rules, cases_order, cases_lt, add-zero, ◌∙◌, mul-le, div-mul-add, mod-mul-add, add-mod-mod, add-mod_right, add-div_right, mul-add-div_right, sym, mod-lt, mod-eq_of_lt, div-eq_of_lt, div-add-mod, div-add-mod', Shape, data_places, place_count, place_of, lap_of, address_of, cycle_of, IsShape, shape_facts}
use Rattle.segments.proofs.DataPlaces.{places_apart, place_aligned, place_ends}

-- the quotient and the remainder one further on, within n and at its end
next_within : (n p : ℕ) → p % n + 1 < n → ((p + 1) / n ≡ p / n) × ((p + 1) % n ≡ p % n + 1)
next_within n p h = grind (arith, div-add-mod, div-mul-add, mod-mul-add)

next_at_end : (n p : ℕ) → 0 < n → p % n + 1 ≡ n → ((p + 1) / n ≡ p / n + 1) × ((p + 1) % n ≡ 0)
next_at_end n p pos h =
    let split : p + 1 ≡ (p / n + 1) * n + 0 = omega (arith, div-add-mod' p n) in
    (rw split (div-mul-add (p / n + 1) n 0 pos), rw split (mod-mul-add (p / n + 1) n 0 pos))

-- numbers less than n apart with one remainder are equal
pub same_in_lap : (n p q : ℕ) → 0 < n → p ≤ q → q < p + n → p % n ≡ q % n → p ≡ q
same_in_lap n p q pos le near same = grind (arith, div-add-mod, cases_order, mul-le)

pub place_count_pos : (shape : Shape) → IsShape shape → 0 < place_count shape
place_count_pos shape is = omega (arith, (shape_facts shape is).several)

-- ---- places and laps

-- the place of a position is one of the ring's
pub place_below : (shape : Shape) → IsShape shape → (p : ℕ) → place_of shape p < place_count shape
unfolding place_of
place_below shape is p = mod-lt (p + shape.offset) (place_count_pos shape is)

-- with no offset places and laps are counted from position 0 on
pub place_of-unmoved : (shape : Shape) → shape.offset ≡ 0 → (p : ℕ) → place_of shape p ≡ p % place_count shape
unfolding place_of
place_of-unmoved shape unmoved p = rw (unmoved, add-zero) refl

pub lap_of-unmoved : (shape : Shape) → shape.offset ≡ 0 → (p : ℕ) → lap_of shape p ≡ p / place_count shape
unfolding lap_of
lap_of-unmoved shape unmoved p = rw (unmoved, add-zero) refl

-- a lap later a position has the place that it had
pub place_of-lap : (shape : Shape) (p : ℕ) → place_of shape (p + place_count shape) ≡ place_of shape p
unfolding place_of
place_of-lap shape p =
    let e : p + place_count shape + shape.offset ≡ p + shape.offset + place_count shape = omega arith in
    rw e (add-mod_right (p + shape.offset) (place_count shape))

lap_of-lap : (shape : Shape) → IsShape shape → (p : ℕ) → lap_of shape (p + place_count shape) ≡ lap_of shape p + 1
unfolding lap_of
lap_of-lap shape is p =
    let e : p + place_count shape + shape.offset ≡ p + shape.offset + place_count shape = omega arith in
    rw e (add-div_right (p + shape.offset) (place_count_pos shape is))

-- one position further on, within the lap and at its end
next_in_lap : (shape : Shape) (p : ℕ) → place_of shape p + 1 < place_count shape → (lap_of shape (p + 1) ≡ lap_of shape p) × (place_of shape (p + 1) ≡ place_of shape p + 1)
unfolding place_of lap_of
next_in_lap shape p h =
    let e : p + 1 + shape.offset ≡ p + shape.offset + 1 = omega arith in
    rw e (next_within (place_count shape) (p + shape.offset) h)

next_past_lap : (shape : Shape) (p : ℕ) → place_of shape p + 1 ≡ place_count shape → (lap_of shape (p + 1) ≡ lap_of shape p + 1) × (place_of shape (p + 1) ≡ 0)
unfolding place_of lap_of
next_past_lap shape p h =
    let e : p + 1 + shape.offset ≡ p + shape.offset + 1 = omega arith in
    rw e (next_at_end (place_count shape) (p + shape.offset) (omega arith) h)

pub place_of-next : (shape : Shape) (p : ℕ) → place_of shape p + 1 < place_count shape → place_of shape (p + 1) ≡ place_of shape p + 1
place_of-next shape p h = (next_in_lap shape p h).1

pub place_of-next_lap : (shape : Shape) (p : ℕ) → place_of shape p + 1 ≡ place_count shape → place_of shape (p + 1) ≡ 0
place_of-next_lap shape p h = (next_past_lap shape p h).1

-- the place one position before, within the lap and at its end
pub place_of-before : (shape : Shape) → IsShape shape → (p : ℕ) → 0 < p → 0 < place_of shape p → place_of shape (p - 1) + 1 ≡ place_of shape p
place_of-before shape is p some more = search (rules, cases_lt, place_below, place_of-next, place_of-next_lap)

pub place_of-before_lap : (shape : Shape) → IsShape shape → (p : ℕ) → 0 < p → place_of shape p ≡ 0 → place_of shape (p - 1) + 1 ≡ place_count shape
place_of-before_lap shape is p some first = search (rules, cases_lt, place_below, place_of-next)

-- from a position on the next one at a place comes in its lap, or in the next lap
pub place_of-ahead : (shape : Shape) (p i : ℕ) → i < place_count shape → place_of shape p ≤ i → place_of shape (p + (i - place_of shape p)) ≡ i
unfolding place_of
place_of-ahead shape p i h ahead =
    let n : ℕ = place_count shape in
    let e : p + (i - (p + shape.offset) % n) + shape.offset ≡ (p + shape.offset) / n * n + i = omega (arith, div-add-mod' (p + shape.offset) n) in
    rw e (mod-mul-add ((p + shape.offset) / n) n i h)

pub place_of-ahead_lap : (shape : Shape) → IsShape shape → (p i : ℕ) → i < place_count shape → i < place_of shape p →
    place_of shape (p + (i + (place_count shape - place_of shape p))) ≡ i
unfolding place_of
place_of-ahead_lap shape is p i h passed =
    let n : ℕ = place_count shape in
    let below : (p + shape.offset) % n < n = place_below shape is p in
    let e : p + (i + (n - (p + shape.offset) % n)) + shape.offset ≡ ((p + shape.offset) / n + 1) * n + i = omega (arith, div-add-mod' (p + shape.offset) n) in
    rw e (mod-mul-add ((p + shape.offset) / n + 1) n i h)

-- place and lap by those of the position and of the offset, so that no sum is of more than a lap
pub place_of-parts : (shape : Shape) (n p : ℕ) → n ≡ place_count shape → (p % n + shape.offset % n) % n ≡ place_of shape p
unfolding place_of
place_of-parts shape n p h =
    let turned : p % n + shape.offset ≡ shape.offset + p % n = omega arith in
    let back : shape.offset + p ≡ p + shape.offset = omega arith in
    add-mod-mod (p % n) shape.offset n ∙ rw turned (add-mod-mod shape.offset p n ∙ rw back (ap (λ m. (p + shape.offset) % m) h))

pub lap_of-parts : (shape : Shape) → IsShape shape → (n p : ℕ) → n ≡ place_count shape → p / n + shape.offset / n + (p % n + shape.offset % n) / n ≡ lap_of shape p
unfolding lap_of
lap_of-parts shape is n p h =
    let pos : 0 < n = omega (arith, place_count_pos shape is) in
    let e : (p / n + shape.offset / n) * n + (p % n + shape.offset % n) ≡ p + shape.offset = omega (arith, div-add-mod' p n, div-add-mod' shape.offset n) in
    sym (mul-add-div_right pos (p / n + shape.offset / n) (p % n + shape.offset % n)) ∙ rw e (ap (λ m. (p + shape.offset) / m) h)

-- two positions at one place, less than a lap apart, are equal
pub same_in_lap_of : (shape : Shape) → IsShape shape → (p q : ℕ) → p ≤ q → q < p + place_count shape → place_of shape p ≡ place_of shape q → p ≡ q
unfolding place_of
same_in_lap_of shape is p q le near same =
    omega (arith, same_in_lap (place_count shape) (p + shape.offset) (q + shape.offset) (place_count_pos shape is) (omega arith) (omega arith) same)

-- ---- addresses

pub address_of-place : (shape : Shape) (p : ℕ) → address_of shape p ≡ slice_index (data_places shape) (place_of shape p)
address_of-place shape p = refl

-- a lap later a position lies where it lay
pub address_of-lap : (shape : Shape) (p : ℕ) → address_of shape (p + place_count shape) ≡ address_of shape p
address_of-lap shape p = ap (λ i. slice_index (data_places shape) i) (place_of-lap shape p)

-- with no offset the positions of the first lap are places
pub address_of-first : (shape : Shape) → shape.offset ≡ 0 → (p : ℕ) → p < place_count shape → address_of shape p ≡ slice_index (data_places shape) p
address_of-first shape unmoved p h = ap (λ i. slice_index (data_places shape) i) (place_of-unmoved shape unmoved p ∙ mod-eq_of_lt h)

pub address_aligned : (shape : Shape) → IsShape shape → (p : ℕ) → address_of shape p % 16 ≡ 0
address_aligned shape is p = place_aligned shape is (place_of shape p) (place_below shape is p)

pub address_ends : (shape : Shape) → IsShape shape → (p : ℕ) → address_of shape p + 16 ≤ 2 ^ 64
address_ends shape is p = place_ends shape is (place_of shape p) (place_below shape is p)

-- two positions with a byte of their places in common lie at one place
pub same_place_of : (shape : Shape) → IsShape shape → (p q : ℕ) → address_of shape p < address_of shape q + 16 → address_of shape q < address_of shape p + 16 →
    place_of shape p ≡ place_of shape q
same_place_of shape is p q near far = search (rules, places_apart, place_below)

-- two positions at one address, less than a lap apart, are equal
pub same_position : (shape : Shape) → IsShape shape → (p q : ℕ) → p ≤ q → q < p + place_count shape → address_of shape p ≡ address_of shape q → p ≡ q
same_position shape is p q le near same = search (rules, same_in_lap_of, same_place_of)

-- as same_position, with neither known to be the lower one
pub same_position_near : (shape : Shape) → IsShape shape → (p q : ℕ) → p < q + place_count shape → q < p + place_count shape →
    address_of shape p ≡ address_of shape q → p ≡ q
same_position_near shape is p q far near same = search (rules, cases_lt, same_position)

-- ---- Cycle bits

pub cycle_of_bit : (shape : Shape) (p : ℕ) → cycle_of shape p < 2
cycle_of_bit shape p = omega arith

-- with no offset the Cycle bit is told by the position alone, and is 1 in the first lap
pub cycle_of-unmoved : (shape : Shape) → shape.offset ≡ 0 → (p : ℕ) → cycle_of shape p ≡ 1 - p / place_count shape % 2
cycle_of-unmoved shape unmoved p = ap (λ lap. 1 - lap % 2) (lap_of-unmoved shape unmoved p)

pub cycle_of-first : (shape : Shape) → shape.offset ≡ 0 → (p : ℕ) → p < place_count shape → cycle_of shape p ≡ 1
cycle_of-first shape unmoved p h = cycle_of-unmoved shape unmoved p ∙ ap (λ lap. 1 - lap % 2) (div-eq_of_lt h)

-- from lap to lap the Cycle bit flips
pub cycle_of-lap : (shape : Shape) → IsShape shape → (p : ℕ) → cycle_of shape (p + place_count shape) ≡ 1 - cycle_of shape p
cycle_of-lap shape is p = omega (arith, lap_of-lap shape is p)

pub cycle_of_flips : (shape : Shape) → IsShape shape → (p : ℕ) → cycle_of shape (p + place_count shape) ≢ cycle_of shape p
cycle_of_flips shape is p same = search (rules, cycle_of_bit, cycle_of-lap)

-- within a lap the Cycle bit stays
pub cycle_of-same_lap : (shape : Shape) (p q : ℕ) → lap_of shape p ≡ lap_of shape q → cycle_of shape p ≡ cycle_of shape q
cycle_of-same_lap shape p q e = ap (λ lap. 1 - lap % 2) e

-- one position further on, within the lap and at its end
pub cycle_of-next : (shape : Shape) (p : ℕ) → place_of shape p + 1 < place_count shape → cycle_of shape (p + 1) ≡ cycle_of shape p
cycle_of-next shape p h = cycle_of-same_lap shape (p + 1) p (next_in_lap shape p h).0

pub cycle_of-next_lap : (shape : Shape) → IsShape shape → (p : ℕ) → place_of shape p + 1 ≡ place_count shape → cycle_of shape (p + 1) ≡ 1 - cycle_of shape p
cycle_of-next_lap shape is p h = omega (arith, (next_past_lap shape p h).0)
