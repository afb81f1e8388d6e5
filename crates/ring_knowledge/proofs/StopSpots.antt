-- A spot at which a controller may have stopped is one before which all is given, on a ring that a record follows
use Rattle.ring_knowledge.proofs.UpperLaws.{in_range_all, all_in_range, ◌≡◌, ◌≢◌, ◌+◌, ◌<◌, ◌≤◌, ◌∙◌, ◌||◌, ℕ, suc, zero, Bool, true, false, None, Some, refl, ap, sym, arith, inl, inr, not, is_some, nat_lt, nat_le, lt-ltb, le-ltb, le-leb, leb-true, ltb-true, eq-eqb, eqb-true, ne_eqb, cases_lt, and_parts, and_from, or_cases, or_left, or_right, false≢true, Spot, Data, Link, Shape, place_count, is_crossing, link_crossed, RingView, is_way_given, is_step_given, given_count, is_stop_spot, stopped_number, is_reached, are_given, are_ways_given, link_of, is_crossing-from, RingRecord, is_noted, FollowsMarks, FollowsRing, least_crossing, rules, link_of-crossed, count_is}

same_tests : (a b : Bool) → (a ≡ true → b ≡ true) → (b ≡ true → a ≡ true) → a ≡ b
same_tests a b f g = grind arith

-- ---- the way to a position

-- over no Link
pub way_without_link : (shape : Shape) (v : RingView) (q : ℕ) → link_crossed shape q ≡ None → true ≡ is_way_given shape v q
unfolding is_way_given
way_without_link shape v q none = sym (ap (λ o. not (is_some o) || v.crossed q) none)

-- over the Link of a segment
pub way_with_link : (shape : Shape) (v : RingView) (r : RingRecord) → FollowsMarks shape v r → (q j : ℕ) → link_crossed shape q ≡ Some j →
    is_noted (least_crossing v) (place_count shape) r.crossed.items j q ≡ is_way_given shape v q
unfolding is_way_given
way_with_link shape v r follows q j over = search (rules, not, is_crossing-from, is_noted, least_crossing, place_count, link_of, link_of-crossed)

pub way_without : (shape : Shape) (v : RingView) (q : ℕ) → is_crossing shape q ≡ false → is_way_given shape v q ≡ true
unfolding is_way_given
way_without shape v q none = ap (λ b. not b || v.crossed q) none

step_parts : (shape : Shape) (v : RingView) (q : ℕ) → is_step_given shape v q ≡ true → (v.given q ≡ true) × (is_way_given shape v q ≡ true)
unfolding is_step_given
step_parts shape v q given = and_parts (v.given q) (is_way_given shape v q) given

step_both : (shape : Shape) (v : RingView) (q : ℕ) → v.given q ≡ true → is_way_given shape v q ≡ true → is_step_given shape v q ≡ true
unfolding is_step_given
step_both shape v q given way = and_from (v.given q) (is_way_given shape v q) given way

-- ---- what is reached

module _ (shape : Shape) (v : RingView) where
  given_at : (n : ℕ) → are_given v n ≡ true → (p : ℕ) → p < n → v.given p ≡ true
  unfolding are_given
  given_at n all p below = in_range_all v.given 0 n all p (omega arith) (omega arith)

  way_at : (n : ℕ) → are_ways_given shape v n ≡ true → (q : ℕ) → q ≤ n → is_way_given shape v q ≡ true
  unfolding are_ways_given is_way_given
  way_at n all zero near = refl
  way_at n all (suc q) near = in_range_all (is_way_given shape v) 1 n all (suc q) (omega arith) (omega arith)

  all_given : (n : ℕ) → ((p : ℕ) → p < n → is_step_given shape v p ≡ true) → are_given v n ≡ true
  unfolding are_given
  all_given n steps = all_in_range v.given 0 n (λ p low high. (step_parts shape v p (steps p (omega arith))).0)

  all_ways : (n : ℕ) → ((q : ℕ) → 0 < q → q ≤ n → is_way_given shape v q ≡ true) → are_ways_given shape v n ≡ true
  unfolding are_ways_given
  all_ways n ways = all_in_range (is_way_given shape v) 1 n (λ q low high. ways q (omega arith) (omega arith))

  -- a block up to which all steps are given, with the way to it
  pub reached_block : (q : ℕ) → ((p : ℕ) → p < q → is_step_given shape v p ≡ true) → is_way_given shape v q ≡ true → is_reached shape v (Data q) ≡ true
  unfolding is_reached
  reached_block q steps way = search (rules, and_from, all_given, all_ways, step_parts)

  pub reached_link : (q : ℕ) → ((p : ℕ) → p < q → is_step_given shape v p ≡ true) → is_reached shape v (Link q) ≡ true
  unfolding is_reached
  reached_link q steps = grind (arith, and_from, all_given, all_ways, step_parts)

  -- before what is reached all steps are given
  steps_to_block : (q : ℕ) → is_reached shape v (Data q) ≡ true → ((p : ℕ) → p < q → is_step_given shape v p ≡ true) × (is_way_given shape v q ≡ true)
  unfolding is_reached
  steps_to_block q reached = grind (arith, and_parts, step_both, given_at, way_at)

  steps_to_link : (q : ℕ) → is_reached shape v (Link q) ≡ true → (p : ℕ) → p < q → is_step_given shape v p ≡ true
  unfolding is_reached
  steps_to_link q reached p below = grind (arith, and_parts, step_both, given_at, way_at)

-- ---- where a controller may have stopped

module _ (shape : Shape) (v : RingView) (r : RingRecord) (known : FollowsRing shape v r) where
  -- with all steps below a number given, it isn't past the count
  within_count : (n : ℕ) → ((p : ℕ) → p < n → is_step_given shape v p ≡ true) → n ≤ r.count
  within_count n steps = elim (cases_lt r.count n) [ inl past ↦ absurd (false≢true (sym known.stop ∙ steps r.count past)) | inr near ↦ near ]

  pub stop_at_link : (q : ℕ) → nat_le q r.count ≡ is_stop_spot shape v (Link q)
  unfolding is_stop_spot
  stop_at_link q = ap (λ n. nat_le q n) (count_is shape v r known)

  -- the block at the count, and any other
  pub stop_at_count : (p : ℕ) → p ≡ r.count → is_way_given shape v p ≡ is_stop_spot shape v (Data p)
  unfolding is_stop_spot
  stop_at_count p same = grind (arith, count_is, le-ltb, eq-eqb)

  pub stop_elsewhere : (p : ℕ) → p ≢ r.count → nat_lt p r.count ≡ is_stop_spot shape v (Data p)
  unfolding is_stop_spot
  stop_elsewhere p other = search (rules, nat_lt, count_is, ne_eqb)

  -- a block is reached exactly there
  block_stop : (q : ℕ) → is_reached shape v (Data q) ≡ true → is_stop_spot shape v (Data q) ≡ true
  unfolding is_stop_spot
  block_stop q reached = search (rules, count_is, steps_to_block, within_count, cases_lt, or_left, nat_lt, lt-ltb, or_right, and_from, eq-eqb)

  block_reached : (q : ℕ) → is_stop_spot shape v (Data q) ≡ true → is_reached shape v (Data q) ≡ true
  unfolding is_stop_spot
  block_reached q stop = search (rules, count_is, or_cases, nat_lt, ltb-true, reached_block, step_parts, and_parts, eqb-true)

  link_stop : (q : ℕ) → is_reached shape v (Link q) ≡ true → is_stop_spot shape v (Link q) ≡ true
  unfolding is_stop_spot
  link_stop q reached = le-leb q (given_count shape v) (omega (arith, within_count q (steps_to_link shape v q reached), count_is shape v r known))

  link_reached : (q : ℕ) → is_stop_spot shape v (Link q) ≡ true → is_reached shape v (Link q) ≡ true
  unfolding is_stop_spot
  link_reached q stop = reached_link shape v q (λ p h. known.steps p (omega (arith, leb-true q (given_count shape v) stop, count_is shape v r known)))

  pub stop_reached : (t : Spot) → is_stop_spot shape v t ≡ is_reached shape v t
  stop_reached (Data q) = same_tests (is_stop_spot shape v (Data q)) (is_reached shape v (Data q)) (block_reached q) (block_stop q)
  stop_reached (Link q) = same_tests (is_stop_spot shape v (Link q)) (is_reached shape v (Link q)) (link_reached q) (link_stop q)

  -- where it is held then
  pub stopped_before : (p : ℕ) → p < r.count → p + 1 ≡ stopped_number shape v (Data p)
  unfolding stopped_number
  stopped_before p below = let count = count_is shape v r known in omega (arith, count)

  pub stopped_behind : (p : ℕ) → r.count ≤ p → r.count ≡ stopped_number shape v (Data p)
  unfolding stopped_number
  stopped_behind p past = let count = count_is shape v r known in omega (arith, count)

pub stopped_at_link : (shape : Shape) (v : RingView) (q : ℕ) → q ≡ stopped_number shape v (Link q)
unfolding stopped_number
stopped_at_link shape v q = refl
