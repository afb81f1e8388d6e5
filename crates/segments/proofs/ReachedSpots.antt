-- Spots that the controller's pointer may be known to have reached: behind a finished block, where it stopped, where it is moved
use Rattle.segments.proofs.MiddleLaws.{◌≡◌, ◌+◌, ◌-◌, ◌<◌, ◌≤◌, ◌==◌, ◌&&◌, ℕ, true, nat_lt, arith, inl, inr, ltb-true, leb-true, eqb-true, cases_eq, and_parts, or_cases, not-true, false≢true, Spot, Data, Link, Shape, is_crossing, IsSpot, number, after, RingView, floor_number, is_way_given, is_step_given, given_count, is_stop_spot, stopped_number, are_given, are_ways_given, is_reached, MayReach, rules, crossing_positive, given_below, step_is, in_range_all}
use Rattle.segments.proofs.SpotOrder.{after_is}

-- the ways to a number
pub way_is : (shape : Shape) (v : RingView) (q : ℕ) → is_way_given shape v q ≡ true → is_crossing shape q ≡ true → v.crossed q ≡ true
unfolding is_way_given
way_is shape v q h crossing = search (rules, or_cases, false≢true, not-true)

-- a block up to which all is given, with the way to it
pub data_reached : (shape : Shape) (v : RingView) (q : ℕ) → floor_number v ≤ q → ((p : ℕ) → p < q → is_step_given shape v p ≡ true) →
    (is_crossing shape q ≡ true → v.crossed q ≡ true) → MayReach shape v (Data q)
data_reached shape v q later steps way = search (rules, step_is shape v, cases_eq, way, steps)

-- a Link up to which all is given
pub link_reached : (shape : Shape) (v : RingView) (q : ℕ) → is_crossing shape q ≡ true → floor_number v ≤ q → ((p : ℕ) → p < q → is_step_given shape v p ≡ true) → MayReach shape v (Link q)
link_reached shape v q is later steps = search (rules, step_is shape v, steps)

-- the spot behind a given block
pub after_reached : (shape : Shape) (v : RingView) (p : ℕ) → floor_number v ≤ p + 1 → p < given_count shape v → MayReach shape v (after shape p)
after_reached shape v p later h = search (rules, given_below, after_is, link_reached, data_reached, false≢true)

pub number-after : (shape : Shape) (p : ℕ) → number (after shape p) ≡ p + 1
number-after shape p = search (rules, after_is)

-- a spot at which the controller may have stopped
pub stop_spot_reached : (shape : Shape) (v : RingView) (t : Spot) → IsSpot shape t → floor_number v ≤ number t → is_stop_spot shape v t ≡ true → MayReach shape v t
unfolding is_stop_spot
stop_spot_reached shape v (Data p) is later h = elim (or_cases (nat_lt p (given_count shape v)) (p == given_count shape v && is_way_given shape v p) h) [
  | inl below ↦
      data_reached shape v p later (λ q l. given_below shape v q (omega (arith, ltb-true p (given_count shape v) below))) (step_is shape v p (given_below shape v p
      (ltb-true p _ below))).1
  | inr end ↦ search (rules, and_parts, given_count, is_way_given, data_reached, given_below, eqb-true, way_is)
]
stop_spot_reached shape v (Link q) is later h = link_reached shape v q is later (λ p l. given_below shape v p (omega (arith, leb-true q (given_count shape v) h)))

-- where it is held then
pub stopped_within : (shape : Shape) (v : RingView) (t : Spot) → is_stop_spot shape v t ≡ true →
    (number t ≤ stopped_number shape v t) × (stopped_number shape v t ≤ given_count shape v)
unfolding is_stop_spot stopped_number
stopped_within shape v t h4 = search (rules, or_cases, nat_lt, ltb-true, and_parts, eqb-true, leb-true)

-- a spot to which the ring may be moved
ways_below : (shape : Shape) (v : RingView) (n : ℕ) → are_ways_given shape v n ≡ true → (q : ℕ) → 1 ≤ q → q < 1 + n → is_way_given shape v q ≡ true
unfolding are_ways_given
ways_below shape v n h q low high = in_range_all (is_way_given shape v) 1 n h q low high

all_below : (v : RingView) (n : ℕ) → are_given v n ≡ true → (p : ℕ) → p < n → v.given p ≡ true
unfolding are_given
all_below v n h p l = in_range_all v.given 0 n h p (omega arith) (omega arith)

pub move_reached : (shape : Shape) (v : RingView) (t : Spot) → IsSpot shape t → floor_number v ≤ number t → is_reached shape v t ≡ true → MayReach shape v t
unfolding is_reached
move_reached shape v (Data q) is later h =
    let parts = and_parts (are_given v q) (are_ways_given shape v q) h in
    search (rules, all_below v q parts.0, way_is shape v, ways_below shape v q parts.1, crossing_positive)
move_reached shape v (Link q) is later h =
    let parts = and_parts (are_given v q) (are_ways_given shape v (q - 1)) h in
    search (rules, all_below v q parts.0, way_is shape v, ways_below shape v (q - 1) parts.1, crossing_positive)
