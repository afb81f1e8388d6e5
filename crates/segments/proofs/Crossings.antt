-- Crossings: which Link is crossed on the way to a position, where it lies, where it leads, and how often: xHCI 4.11.5.1
use Rattle.segments.proofs.LowerLaws.{◌≡◌, ◌+◌, ◌-◌, ◌%◌, ◌<◌, ◌≤◌, ◌==◌, if◌then◌else◌, ◌∷◌, ◌∙◌, ℕ, suc, zero, true, false, List, [], length, slice_index, Some, position, is_some, unwrap_or, arith, sym, ap, refl, inl, inr, get_or, add-one, add-zero, eqb-true, eq-eqb, ne_eqb, rules, cases_lt, cases_eq, cases_order, false≢true, cond-true, cond-false, length-map, get_or-map, position-Some, none-some, mod-lt, mod-eq_of_lt, mod_self, RingKind, Cmd, Evt, Xfer, Segment, Shape, data_count, data_places, place_count, place_of, address_of, cycle_of, links_of, links, ends_from, ends_of, ends, link_crossed, is_crossing, link_address, link_target, toggles, IsShape, segment_at, before, before-next, before-all, before-zero, shape_facts, position_only}
use Rattle.segments.proofs.DataPlaces.{block_is, IsPlace, link_is, same_link, length-links, place_is, segment_start}
use Rattle.segments.proofs.Positions.{place_count_pos, place_below, place_of-unmoved, place_of-lap, place_of-next, place_of-next_lap, place_of-before, place_of-before_lap, same_in_lap_of, cycle_of-next, cycle_of-next_lap}

-- ---- after how many data places each Link is crossed

ends_at_from : (kind : RingKind) (ss : List Segment) (b j : ℕ) → ((s : Segment) → data_count kind s ≡ s.count - 1) → j < length ss →
    (length (ends_from b ss) ≡ length ss) × (get_or (ends_from b ss) j 0 ≡ b + before kind ss (suc j))
ends_at_from kind [] b j one h = absurd (omega arith)
ends_at_from kind (s ∷ []) b zero one h = (refl, omega (arith, one s))
ends_at_from kind (s ∷ t ∷ rest) b zero one h = search (rules, ends_at_from kind (t ∷ rest) (b + (s.count - 1)) zero one (omega arith))
ends_at_from kind (s ∷ rest) b (suc j) one h = search (rules, ends_at_from kind rest (b + (s.count - 1)) j one (omega arith))

length-ends_from : (ss : List Segment) (b : ℕ) → length (ends_from b ss) ≡ length ss
length-ends_from [] b = refl
length-ends_from (s ∷ rest) b = ap suc (length-ends_from rest (b + (s.count - 1)))

ends_at : (kind : RingKind) (ss : List Segment) (j : ℕ) → j < length (ends_of kind ss) →
    (j < length ss) × (get_or (ends_of kind ss) j 0 ≡ before kind ss (j + 1))
ends_at Evt ss j h = absurd (omega arith)
ends_at Cmd ss j h = search (rules, ends_at_from Cmd ss 0 j (λ s. refl), length-ends_from ss 0, add-one)
ends_at Xfer ss j h = search (rules, ends_at_from Xfer ss 0 j (λ s. refl), length-ends_from ss 0, add-one)

as_many : (kind : RingKind) (ss : List Segment) → length (ends_of kind ss) ≡ length (links_of kind ss)
as_many kind ss = search (rules, length-ends_from, length-map)

-- one end for each Link
pub length-ends : (shape : Shape) → length (ends shape) ≡ length (links shape)
length-ends shape = as_many shape.kind shape.segments

-- the Link of segment j is crossed after the data places of the segments up to it
pub end_is : (shape : Shape) → (j : ℕ) → j < length (links shape) → slice_index (ends shape) j ≡ before shape.kind shape.segments (j + 1)
end_is shape j h = (ends_at shape.kind shape.segments j (omega (arith, length-ends shape))).1

before_grows : (shape : Shape) → IsShape shape → (i n : ℕ) → i + n ≤ length shape.segments →
    before shape.kind shape.segments i + n ≤ before shape.kind shape.segments (i + n)
before_grows shape is i zero h = rw (add-zero, add-zero) (omega arith)
before_grows shape is i (suc n) h =
    search (rules, (shape_facts shape is).each (i + n) (omega arith), before_grows shape is i n (omega arith), before-next shape.kind shape.segments (i + n) (omega arith))

-- a later segment has more data places before it
pub before_below : (shape : Shape) → IsShape shape → (i j : ℕ) → i < j → j ≤ length shape.segments →
    before shape.kind shape.segments i < before shape.kind shape.segments j
before_below shape is i j l h = search (rules, before_grows shape is i (j - i))

-- the ends lie in the lap, from 1 on
pub end_in_lap : (shape : Shape) → IsShape shape → (j : ℕ) → j < length (links shape) →
    (0 < slice_index (ends shape) j) × (slice_index (ends shape) j ≤ place_count shape)
end_in_lap shape is j h = search (rules, link_is, end_is, before_below, before-all, cases_lt, link_is shape is j h, end_is shape j h, before_below shape is j (j + 1) (omega arith) (omega (arith, (link_is shape is j h).segment)), before-all shape.kind shape.segments)

-- no two Links are crossed after one number of data places
pub same_end : (shape : Shape) → IsShape shape → (i j : ℕ) → i < length (links shape) → j < length (links shape) →
    slice_index (ends shape) i ≡ slice_index (ends shape) j → i ≡ j
same_end shape is i j hi hj e = search (rules, end_is shape i hi, end_is shape j hj, link_is shape is i hi, link_is shape is j hj, cases_order, before_below)

-- ---- which Link is crossed on the way to a position

link_crossed-pos : (shape : Shape) (q : ℕ) → 0 < q → link_crossed shape q ≡ position (λ n. n == place_of shape (q - 1) + 1) (ends shape)
link_crossed-pos shape q h3 = search rules

-- crossing q goes over Link i
pub record Crosses (shape : Shape) (q i : ℕ) : Type 0 where
  pub positive : 0 < q
  pub link : i < length (links shape)
  pub end : slice_index (ends shape) i ≡ place_of shape (q - 1) + 1

pub crosses : (shape : Shape) (q i : ℕ) → link_crossed shape q ≡ Some i → Crosses shape q i
crosses shape q i h4 = search (rules, none-some, position-Some, length-ends, eqb-true)

pub crosses-from : (shape : Shape) → IsShape shape → (q i : ℕ) → Crosses shape q i → link_crossed shape q ≡ Some i
crosses-from shape is q i c = search (rules, link_crossed-pos, position_only, length-ends, eq-eqb, same_end, eqb-true)

-- the Link that a crossing goes over
pub crossed_link : (shape : Shape) (q : ℕ) → is_crossing shape q ≡ true → (i : ℕ) × (link_crossed shape q ≡ Some i)
crossed_link shape q h = search (rules, false≢true)

pub is_crossing-from : (shape : Shape) (q i : ℕ) → link_crossed shape q ≡ Some i → is_crossing shape q ≡ true
is_crossing-from shape q i h = ap (λ o. is_some o) h

pub crossing_positive : (shape : Shape) (q : ℕ) → is_crossing shape q ≡ true → 0 < q
crossing_positive shape q h = (let found = crossed_link shape q h in (crosses shape q found.0 found.1).positive)

pub link_address_is : (shape : Shape) (q i : ℕ) → link_crossed shape q ≡ Some i → link_address shape q ≡ slice_index (links shape) i
link_address_is shape q i h = ap (λ o. slice_index (links shape) (unwrap_or o 0)) h

-- ---- from lap to lap

-- a lap later the same Link is crossed
pub link_crossed-lap : (shape : Shape) (q : ℕ) → 0 < q → link_crossed shape (q + place_count shape) ≡ link_crossed shape q
link_crossed-lap shape q h =
    let e : q + place_count shape - 1 ≡ q - 1 + place_count shape = omega arith in
    rw (link_crossed-pos shape (q + place_count shape) (omega arith), link_crossed-pos shape q h, e, place_of-lap shape (q - 1)) refl

-- which Link is crossed depends on the position's place alone
pub link_crossed-same : (shape : Shape) → IsShape shape → (p q : ℕ) → 0 < p → 0 < q → place_of shape p ≡ place_of shape q → link_crossed shape p ≡ link_crossed shape q
link_crossed-same shape is p q hp hq same =
    let e : place_of shape (p - 1) + 1 ≡ place_of shape (q - 1) + 1 = search (rules, cases_eq, place_of-before, place_of-before_lap) in
    rw (link_crossed-pos shape p hp, link_crossed-pos shape q hq, e) refl

pub is_crossing-lap : (shape : Shape) (q : ℕ) → 0 < q → is_crossing shape (q + place_count shape) ≡ is_crossing shape q
is_crossing-lap shape q h = ap (λ o. is_some o) (link_crossed-lap shape q h)

pub link_address-lap : (shape : Shape) (q : ℕ) → 0 < q → link_address shape (q + place_count shape) ≡ link_address shape q
link_address-lap shape q h = ap (λ o. slice_index (links shape) (unwrap_or o 0)) (link_crossed-lap shape q h)

-- Link i is crossed behind the data places of the segments up to it
crossing_behind : (shape : Shape) → IsShape shape → (q i : ℕ) → 0 < q → i < length (links shape) → place_of shape (q - 1) + 1 ≡ before shape.kind shape.segments (i + 1) →
    link_crossed shape q ≡ Some i
crossing_behind shape is q i some h behind = crosses-from shape is q i (record { positive = some; link = h; end = end_is shape i h ∙ sym behind })

-- with no offset so is the first lap's
pub first_crossing : (shape : Shape) → IsShape shape → shape.offset ≡ 0 → (i : ℕ) → i < length (links shape) →
    link_crossed shape (before shape.kind shape.segments (i + 1)) ≡ Some i
first_crossing shape is unmoved i h =
    let end = end_in_lap shape is i h in
    let e = end_is shape i h in
    let last : before shape.kind shape.segments (i + 1) - 1 < place_count shape = omega (arith, end, e) in
    crossing_behind shape is (before shape.kind shape.segments (i + 1)) i (omega (arith, end, e)) h
    (omega (arith, place_of-unmoved shape unmoved (before shape.kind shape.segments (i + 1) - 1), mod-eq_of_lt last, end, e))

-- at a lap's end the last Link is crossed
crossed_at_end : (shape : Shape) → IsShape shape → (shape.kind ≡ Evt → ⊥) → (q : ℕ) → 0 < q → place_of shape q ≡ 0 → link_crossed shape q ≡ Some (length shape.segments - 1)
crossed_at_end shape is other q h end =
    search (rules, (place_is shape is 0 (place_count_pos shape is)).2.segment, before-all shape.kind shape.segments, crossing_behind shape is q (length shape.segments - 1), place_of-before_lap shape is q h end, length-links shape other)

pub last_crossing : (shape : Shape) → IsShape shape → shape.offset ≡ 0 → (shape.kind ≡ Evt → ⊥) → link_crossed shape (place_count shape) ≡ Some (length shape.segments - 1)
last_crossing shape is unmoved other =
    crossed_at_end shape is other (place_count shape) (place_count_pos shape is) (place_of-unmoved shape unmoved (place_count shape) ∙ mod_self (place_count shape))

-- at every lap's end a Link is crossed
pub crossing_at_end : (shape : Shape) → IsShape shape → (shape.kind ≡ Evt → ⊥) → (q : ℕ) → 0 < q → place_of shape q ≡ 0 → is_crossing shape q ≡ true
crossing_at_end shape is other q h end = is_crossing-from shape q (length shape.segments - 1) (crossed_at_end shape is other q h end)

-- two crossings over one Link, less than a lap apart, are equal
pub same_crossing : (shape : Shape) → IsShape shape → (p q i : ℕ) → p ≤ q → q < p + place_count shape →
    link_crossed shape p ≡ Some i → link_crossed shape q ≡ Some i → p ≡ q
same_crossing shape is p q i le near first second =
    search (rules, crosses shape p i first, crosses shape q i second, place_of-lap, same_in_lap_of)

-- the same by the Links' addresses
pub same_crossing_at : (shape : Shape) → IsShape shape → (p q : ℕ) → p ≤ q → q < p + place_count shape →
    is_crossing shape p ≡ true → is_crossing shape q ≡ true → link_address shape p ≡ link_address shape q → p ≡ q
same_crossing_at shape is p q le near first second same =
    let a = crossed_link shape p first in
    let b = crossed_link shape q second in
    search (rules, crosses shape p a.0 a.1, crosses shape q b.0 b.1, crosses, same_link, link_address_is, same_crossing, Some)

-- ---- where a crossed Link leads

-- the Link of a crossing toggles the cycle exactly where the crossing ends a lap
pub toggles-crossed : (shape : Shape) → IsShape shape → (q i : ℕ) → link_crossed shape q ≡ Some i → toggles shape i ≡ (place_of shape q == 0)
toggles-crossed shape is q i h = search (rules, crosses, link_is, end_is, before-all, cases_eq, place_count_pos, eq-eqb, before_below, ne_eqb, place_of-next, place_of-next_lap, place_below, crosses shape q i h, link_is shape is i (crosses shape q i h).link, end_is shape i (crosses shape q i h).link, before-all shape.kind shape.segments)

-- the position behind a crossed Link is the first of a segment
pub position_behind : (shape : Shape) → IsShape shape → (q i : ℕ) → link_crossed shape q ≡ Some i →
    place_of shape q ≡ before shape.kind shape.segments ((i + 1) % length shape.segments)
position_behind shape is q i h =
    let c = crosses shape q i h in
    search (rules, cases_eq (i + 1) (length shape.segments), end_is shape i c.link, toggles-crossed shape is q i h, place_count, eqb-true, eq-eqb, length, mod_self, before-zero, before, mod-eq_of_lt, place_of-before, link_is shape is i c.link)

-- the position behind a crossed Link lies where the Link leads
pub link_target-crossed : (shape : Shape) → IsShape shape → (q i : ℕ) → link_crossed shape q ≡ Some i → address_of shape q ≡ link_target shape i
link_target-crossed shape is q i h =
    search (rules, position_behind shape is q i h, segment_start shape is ((i + 1) % length shape.segments), get_or-map, mod-lt (i + 1), link_is shape is i (crosses shape q i h).link)

-- a crossed Link lies right behind the place of the position before
pub link_address-behind : (shape : Shape) → IsShape shape → (q : ℕ) → is_crossing shape (q + 1) ≡ true → link_address shape (q + 1) ≡ address_of shape q + 16
link_address-behind shape is q h =
    let found = crossed_link shape (q + 1) h in
    let c = crosses shape (q + 1) found.0 found.1 in
    let link = link_is shape is found.0 c.link in
    search (rules, slice_index, segment_at, link_address_is, end_is shape found.0 c.link, before-next shape.kind shape.segments found.0 link.segment, block_is shape is found.0 (data_count shape.kind (segment_at shape.segments found.0) - 1) link.segment (omega (arith, link.is_segment.some_data)))

-- where no Link is crossed and the lap goes on, the next place lies right behind
pub address_of-behind : (shape : Shape) → IsShape shape → (shape.kind ≡ Evt → ⊥) → (q : ℕ) → is_crossing shape (q + 1) ≡ false →
    address_of shape (q + 1) ≡ address_of shape q + 16
address_of-behind shape is other q h =
    let found = place_is shape is (place_of shape q) (place_below shape is q) in
    let place : IsPlace shape (place_of shape q) found.0 found.1 = found.2 in
    elim (cases_lt (found.1 + 1) (data_count shape.kind (segment_at shape.segments found.0))) [
      | inl inner ↦ search (rules, block_is shape is found.0 (found.1 + 1) place.segment inner, block_is, place_count, before, place_of-next, slice_index, data_places)
      | inr last ↦
          let link : found.0 < length (links shape) = omega (arith, length-links shape other, place.segment) in
          search (rules, false≢true, is_crossing-from shape (q + 1) found.0, crosses-from shape is (q + 1) found.0, end_is shape found.0 link, before-next shape.kind shape.segments found.0 place.segment)
    ]

-- the Cycle bit behind a crossed Link: flipped where the Link toggles it
pub cycle_of-crossed : (shape : Shape) → IsShape shape → (q i : ℕ) → link_crossed shape q ≡ Some i →
    cycle_of shape q ≡ (if toggles shape i then 1 - cycle_of shape (q - 1) else cycle_of shape (q - 1))
cycle_of-crossed shape is q i h =
    search (rules, crosses shape q i h, toggles-crossed shape is q i h, cases_eq, cycle_of-next_lap, place_of-before_lap, cond-true, eq-eqb, place_of-before, cycle_of-next, place_below, cond-false, ne_eqb)
