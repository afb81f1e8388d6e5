-- A ring whose dequeue pointer is set to a spot: what the pointer names, and the ring behind it
use Rattle.safety.proofs.Words.{◌≡◌, ◌+◌, ◌<◌, ◌≤◌, ◌==◌, ◌&&◌, ◌∷◌, ℕ, true, false, List, length, map, Some, arith, refl, ap, inl, inr, eq-eqb, eqb-true, rules, false≢true, false_from_ne_true, or_cases, or_left, or_right, and_parts, and_from, drop_all, Spot, Data, Link, Shape, place_count, address_of, is_crossing, link_address, IsSpot, number, spot_address, spot_cycle, IsShape, is_border, RingView, is_way_given, rank_least, rank_most, same_spot, RingEvent, Placed, takes_of, is_place, first_at, next_take, is_out_of_order, has_other_words, first_at-found, RingState, RingMatches, Unreported}
use Rattle.safety.proofs.NoHarm.NoWait.{ceiling_held}

-- the pointer is known to be at a spot, and the ring is held there
abbrev pub set_view : RingView → Spot → RingView
set_view v t = record v { floor = t; held = Some (number t) }

-- the pointer is at an address with a cycle state; all takes count as reported
abbrev pub placed_state : RingState → ℕ → ℕ → RingState
placed_state s a c = record { pointer = a; cycle = c; active = false; events = Placed a ∷ s.events; reported = length (takes_of s.events) }

-- ---- the position that the pointer names

place_at_spot : (shape : Shape) (t : Spot) → IsSpot shape t → is_place shape (spot_address shape t) (number t) ≡ true
unfolding is_place
place_at_spot shape o is = grind (arith, or_left, address_of, is_crossing, link_address, eq-eqb, or_right, and_from)

module _ (shape : Shape) (is : IsShape shape) (t : Spot) (is_spot : IsSpot shape t) where
  no_place_before : (p : ℕ) → p < number t → number t < p + place_count shape → is_place shape (spot_address shape t) p ≡ true → ⊥
  unfolding is_place
  no_place_before p below near here =
      elim (or_cases (address_of shape p == spot_address shape t) (is_crossing shape p && link_address shape p == spot_address shape t) here) [
        | inl data_is ↦
            let same : Data p ≡ t =
            same_spot shape is (Data p) t refl is_spot (omega (arith, rank_least t)) (omega (arith, rank_most t)) (eqb-true (address_of shape p) (spot_address shape t) data_is) in
            let one : p ≡ number t = ap number same in
            omega arith
        | inr link_is ↦
            let parts = and_parts (is_crossing shape p) (link_address shape p == spot_address shape t) link_is in
            let same : Link p ≡ t =
            same_spot shape is (Link p) t parts.0 is_spot (omega (arith, rank_least t)) (omega (arith, rank_most t)) (eqb-true (link_address shape p) (spot_address shape t) parts.1) in
            let one : p ≡ number t = ap number same in
            omega arith
      ]

  -- sought from less than a lap before it, the position at a spot's address is the spot's number
  pub first_at_spot : (n : ℕ) → n ≤ number t → number t < n + place_count shape → first_at shape (spot_address shape t) n ≡ number t
  first_at_spot n low near =
      first_at-found shape (spot_address shape t) n (number t) low near (place_at_spot shape t is_spot)
      (λ p from below. false_from_ne_true (is_place shape (spot_address shape t) p) (no_place_before p below (omega arith)))

  next_placed : (events : List RingEvent) → next_take shape events ≤ number t → number t < next_take shape events + place_count shape →
      next_take shape (Placed (spot_address shape t) ∷ events) ≡ number t
  unfolding next_take
  next_placed events low near = first_at_spot (next_take shape events) low near

  order_placed : (a : ℕ) (events : List RingEvent) → is_out_of_order shape (Placed a ∷ events) ≡ is_out_of_order shape events
  unfolding is_out_of_order
  order_placed a events = refl

  words_placed : (a : ℕ) (events : List RingEvent) → has_other_words shape (Placed a ∷ events) ≡ has_other_words shape events
  unfolding has_other_words
  words_placed a events = refl

  way_still : (v : RingView) (q : ℕ) → is_way_given shape (set_view v t) q ≡ is_way_given shape v q
  unfolding is_way_given
  way_still v q = refl

  -- ---- behind it

  pub placed_matches : (v : RingView) (s : RingState) → next_take shape s.events ≤ number t → number t < next_take shape s.events + place_count shape →
      is_border v.lengths 0 (number t) ≡ true → ((q : ℕ) → t ≡ Data q → is_way_given shape v q ≡ true) → is_out_of_order shape s.events ≡ false → has_other_words shape s.events ≡ false →
      RingMatches shape (set_view v t) (placed_state s (spot_address shape t) (spot_cycle shape t)) t
  placed_matches v s low near border way in_order as_declared = search (rules, ceiling_held, way_still, false≢true, next_placed, order_placed, words_placed)

  -- nothing is left to be reported
  pub placed_unreported : (v : RingView) (s : RingState) (a c : ℕ) → Unreported shape (set_view v t) (placed_state s a c) t
  unfolding takes_of
  placed_unreported v s a c = search (rules, drop_all, length, map)
