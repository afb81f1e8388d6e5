-- A spot to which a ring may be moved stays one, whatever is declared, written or reached since
use Rattle.segments.proofs.UpperLaws.{◌≡◌, ◌+◌, ◌-◌, ◌<◌, ◌≤◌, ◌==◌, ◌&&◌, ◌∷◌, ◌++◌, ℕ, suc, zero, Bool, true, List, [], length, arith, list_any, range_with_len, flat_map, cases_eq, and_parts, and_from, or_cases, or_left, or_right, All-get_or, Any-from_list_any, Block, Spot, Data, Link, Shape, number, RingView, floor_number, ceiling, Declares, Writes, changed, is_way_given, is_border, is_target, spots_between, are_given, are_ways_given, is_reached, may_move_to, is_move, is_placement, rules, GivesMore, in_range_all, all_in_range, writes_more}
use Rattle.segments.proofs.MoveTargets.{between}

-- a border stays one when a descriptor is added
pub is_border-push : (lengths : List ℕ) (n start q : ℕ) → is_border lengths start q ≡ true → is_border (lengths ++ n ∷ []) start q ≡ true
unfolding is_border
is_border-push [] n start q h = or_left (start == q) (start + n == q) h
is_border-push (m ∷ rest) n start q h = search (rules, is_border-push rest n (start + m) q)

-- a spot between the bounds is among those between them
any_between : (test : Spot → Bool) (a n : ℕ) (u : Spot) → a ≤ number u → number u < a + n → test u ≡ true →
    list_any test (flat_map (λ q. Link q ∷ Data q ∷ []) (range_with_len a n)) ≡ true
any_between test a zero u low high passes = absurd (omega arith)
any_between test a (suc n) u low high passes = search (rules, cases_eq (number u) a, or_right, or_left, list_any, any_between test (a + 1) n u)

module _ (shape : Shape) (v w : RingView) (more : GivesMore v w) where
  way_more : (q : ℕ) → is_way_given shape v q ≡ true → is_way_given shape w q ≡ true
  unfolding is_way_given
  way_more q h = search (rules, or_cases, or_left, or_right)

  given_more : (n : ℕ) → are_given v n ≡ true → are_given w n ≡ true
  unfolding are_given
  given_more n h = all_in_range w.given 0 n (λ q low high. more.given q (in_range_all v.given 0 n h q low high))

  ways_more : (n : ℕ) → are_ways_given shape v n ≡ true → are_ways_given shape w n ≡ true
  unfolding are_ways_given
  ways_more n h = all_in_range (is_way_given shape w) 1 n (λ q low high. way_more q (in_range_all (is_way_given shape v) 1 n h q low high))

  -- a spot that is reached stays reached
  pub reached_more : (t : Spot) → is_reached shape v t ≡ true → is_reached shape w t ≡ true
  unfolding is_reached
  reached_more t h2 = search (rules, and_parts, and_from, given_more, ways_more)

  -- with more given, more declared and wider bounds a move stays one
  pub move_more : ((q : ℕ) → is_border v.lengths 0 q ≡ true → is_border w.lengths 0 q ≡ true) → (address : ℕ) (cycle : Bool) (least most low high : ℕ) → low ≤ least → most ≤ high →
      is_move shape v address cycle least most ≡ true → is_move shape w address cycle low high ≡ true
  unfolding is_move may_move_to spots_between
  move_more borders address cycle least most low high below above moves =
      let any = Any-from_list_any (λ u. is_target shape address cycle u && may_move_to shape v u) (spots_between least most) moves in
      let u : Spot = any.1 in
      let passes = and_parts (is_target shape address cycle u) (may_move_to shape v u) any.4 in
      let at = and_parts (is_border v.lengths 0 (number u)) (is_reached shape v u) passes.1 in
      let bounds : (least ≤ number u) × (number u ≤ most) = search (rules, number, All-get_or, spots_between, between) in
      search (rules, any_between (λ u. is_target shape address cycle u && may_move_to shape w u) low (high + 1 - low) u, passes, at, bounds, and_from, borders (number u), reached_more u)

-- a ring stands still where it is placed: its controller can't have gone on from the floor
pub placement_still : (shape : Shape) (v : RingView) (address : ℕ) (cycle : Bool) → is_placement shape v address cycle ≡ true → ceiling shape v ≤ floor_number v
unfolding is_placement is_move
placement_still shape v address cycle placed =
    let any = Any-from_list_any (λ u. is_target shape address cycle u && may_move_to shape v u) (spots_between (ceiling shape v) (floor_number v)) placed in
    search (rules, All-get_or (λ x. (ceiling shape v ≤ number x) × (number x ≤ floor_number v)) _ any.0 any.1 any.2 (between (ceiling shape v) (floor_number v)))

module _ (shape : Shape) (v : RingView) (address : ℕ) (cycle : Bool) (least most low high : ℕ) (below : low ≤ least) (above : most ≤ high)
    (moves : is_move shape v address cycle least most ≡ true) where
  pub move-declares : (blocks : List Block) → is_move shape (changed shape v (Declares blocks)) address cycle low high ≡ true
  move-declares blocks = search (rules, move_more, changed, Declares, is_border-push, length)

  pub move-writes : (a w : ℕ) → is_move shape (changed shape v (Writes a w)) address cycle low high ≡ true
  move-writes a w = move_more shape v (changed shape v (Writes a w)) (writes_more shape (λ x. 0) v a w) (λ q h. h) address cycle least most low high below above moves
