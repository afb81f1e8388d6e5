-- A record whose floor has moved on: the marks of what the controller has passed are cleared
use Rattle.ring_knowledge.proofs.MiddleLaws.{in_range_all, drop, ◌≡◌, ◌+◌, ◌-◌, ◌<◌, ◌≤◌, ◌∙◌, ◌&&◌, ◌||◌, ℕ, List, Bool, true, Some, ap, sym, arith, inl, inr, length, not, max, cases_lt, cases_Bool, and_parts, false≢true, Spot, Data, Link, Shape, place_count, link_crossed, is_crossing, number, RingView, Reaches, changed, floor_number, is_way_given, is_reached, are_given, are_ways_given, link_of, crossed_link, crossing_positive, is_crossing-from, link_crossed-lap, RingRecord, AreCleared, is_noted, FollowsMarks, least_crossing, rules, noted_below, noted_due, noted_past, same_due, same_due_crossing, link_of-crossed, place_of, place_of-lap}

-- before a spot that is reached all positions are given
pub reached_given : (shape : Shape) (v : RingView) (spot : Spot) → is_reached shape v spot ≡ true → (p : ℕ) → p < number spot → v.given p ≡ true
unfolding is_reached are_given
reached_given shape v (Data q) reached p below = in_range_all v.given 0 q (and_parts (are_given v q) (are_ways_given shape v q) reached).0 p (omega arith) (omega arith)
reached_given shape v (Link q) reached p below = in_range_all v.given 0 q (and_parts (are_given v q) (are_ways_given shape v (q - 1)) reached).0 p (omega arith) (omega arith)

is_crossed : (c x : Bool) → c ≡ true → (not c || x) ≡ true → x ≡ true
is_crossed c x h3 h = grind (arith, false≢true)

-- and all crossings
pub reached_crossed : (shape : Shape) (v : RingView) (spot : Spot) → is_reached shape v spot ≡ true → (q : ℕ) → is_crossing shape q ≡ true → 0 < q → q < number spot → v.crossed q ≡ true
unfolding is_reached are_ways_given is_way_given
reached_crossed shape v (Data n) reached q crossing positive below =
    is_crossed (is_crossing shape q) (v.crossed q) crossing (in_range_all (is_way_given shape v) 1 n (and_parts (are_given v n) (are_ways_given shape v n) reached).1 q positive (omega arith))
reached_crossed shape v (Link n) reached q crossing positive below =
    is_crossed (is_crossing shape q) (v.crossed q) crossing (in_range_all (is_way_given shape v) 1 (n - 1) (and_parts (are_given v n) (are_ways_given shape v (n - 1)) reached).1 q positive (omega arith))

-- a record with another floor and other marks, and all else the same
pub record HasFloor (r n : RingRecord) (spot : Spot) : Type 0 where
  pub forgotten : n.forgotten ≡ r.forgotten
  pub blocks : n.blocks.items ≡ r.blocks.items
  pub lengths : n.lengths.items ≡ r.lengths.items
  pub floor : n.floor ≡ spot
  pub held : n.held ≡ r.held
  pub withdrawn : n.withdrawn ≡ r.withdrawn
  pub free : n.free ≡ r.free

module _ (shape : Shape) (v : RingView) (r : RingRecord) (follows : FollowsMarks shape v r) (spot : Spot) (later : floor_number v ≤ number spot) (reached : is_reached shape v spot ≡ true) where
  -- a position's note with the new floor and marks
  given_now : (marks : List Bool) → AreCleared (λ p i. place_of shape p ≡ i) r.given.items marks (floor_number v) (number spot) →
      (p : ℕ) → v.given p ≡ is_noted (number spot) (place_count shape) marks (place_of shape p) p
  given_now marks cleared p = elim (cases_lt p (number spot)) [
    | inl passed ↦ reached_given shape v spot reached p passed ∙ sym (noted_below (number spot) (place_count shape) marks (place_of shape p) p passed)
    | inr from ↦ elim (cases_lt p (number spot + place_count shape)) [
      | inr past ↦
          follows.given p ∙ noted_past (floor_number v) (place_count shape) r.given.items (place_of shape p) p (omega arith)
          ∙ sym (noted_past (number spot) (place_count shape) marks (place_of shape p) p past)
      | inl within ↦
          let now = noted_due (number spot) (place_count shape) marks (place_of shape p) p from within in
          elim (cases_lt p (floor_number v + place_count shape)) [
            | inl due ↦
                follows.given p ∙ noted_due (floor_number v) (place_count shape) r.given.items (place_of shape p) p (omega arith) due
                ∙ sym (cleared.kept (place_of shape p) (λ q l u same.
                let one : q ≡ p = same_due shape follows.allowed (floor_number v) q p l (omega arith) (omega arith) due same in absurd (omega arith)))
                ∙ sym now
            | inr next ↦
                let lap : place_of shape (p - place_count shape) ≡ place_of shape p = lap_before p (omega arith) in
                follows.given p ∙ noted_past (floor_number v) (place_count shape) r.given.items (place_of shape p) p next
                ∙ sym (cleared.cleared (p - place_count shape) (place_of shape p) (omega arith) (omega arith) lap) ∙ sym now
          ]
    ]
  ]
    where
      lap_before : (p : ℕ) → place_count shape ≤ p → place_of shape (p - place_count shape) ≡ place_of shape p
      lap_before p h = let e : p - place_count shape + place_count shape ≡ p = omega arith in sym (place_of-lap shape (p - place_count shape)) ∙ ap (λ q. place_of shape q) e

  -- and a crossing's
  crossed_now : (marks : List Bool) → AreCleared (λ q j. link_crossed shape q ≡ Some j) r.crossed.items marks (floor_number v) (number spot) →
      (q : ℕ) → v.crossed q ≡ (is_crossing shape q && is_noted (max (number spot) 1) (place_count shape) marks (link_of shape q) q)
  crossed_now marks cleared q = elim (cases_Bool (is_crossing shape q)) [
    | inr none ↦
        follows.crossed q ∙ ap (λ b. b && is_noted (least_crossing v) (place_count shape) r.crossed.items (link_of shape q) q) none
        ∙ sym (ap (λ b. b && is_noted (max (number spot) 1) (place_count shape) marks (link_of shape q) q) none)
    | inl crossing ↦
        let over = crossed_link shape q crossing in
        was crossing ∙ same_note over.0 over.1 crossing (crossing_positive shape q crossing)
        ∙ sym (ap (λ b. b && is_noted (max (number spot) 1) (place_count shape) marks (link_of shape q) q) crossing)
  ]
    where
      was : is_crossing shape q ≡ true → v.crossed q ≡ is_noted (least_crossing v) (place_count shape) r.crossed.items (link_of shape q) q
      was crossing = follows.crossed q ∙ ap (λ b. b && is_noted (least_crossing v) (place_count shape) r.crossed.items (link_of shape q) q) crossing

      same_note : (j : ℕ) → link_crossed shape q ≡ Some j → is_crossing shape q ≡ true → 0 < q →
          is_noted (least_crossing v) (place_count shape) r.crossed.items (link_of shape q) q ≡ is_noted (max (number spot) 1) (place_count shape) marks (link_of shape q) q
      same_note j over crossing positive =
          let at = link_of-crossed shape q j over in
          elim (cases_lt q (max (number spot) 1)) [
            | inl passed ↦
                sym (was crossing) ∙ reached_crossed shape v spot reached q crossing positive (omega arith)
                ∙ sym (noted_below (max (number spot) 1) (place_count shape) marks (link_of shape q) q passed)
            | inr from ↦ elim (cases_lt q (max (number spot) 1 + place_count shape)) [
              | inr past ↦
                  noted_past (least_crossing v) (place_count shape) r.crossed.items (link_of shape q) q (omega arith)
                  ∙ sym (noted_past (max (number spot) 1) (place_count shape) marks (link_of shape q) q past)
              | inl within ↦
                  let now = noted_due (max (number spot) 1) (place_count shape) marks (link_of shape q) q from within in
                  elim (cases_lt q (least_crossing v + place_count shape)) [
                    | inl due ↦
                        noted_due (least_crossing v) (place_count shape) r.crossed.items (link_of shape q) q (omega arith) due
                        ∙ sym (cleared.kept (link_of shape q) (λ n l u same.
                        let some = crossing_positive shape n (is_crossing-from shape n (link_of shape q) same) in
                        let one : n ≡ q = same_due_crossing shape follows.allowed (least_crossing v) j n q (omega arith) (omega arith) (omega arith) due (same ∙ ap (λ k. Some k) at) over in
                        absurd (omega arith)))
                        ∙ sym now
                    | inr next ↦
                        let lap : q - place_count shape + place_count shape ≡ q = omega arith in
                        let before : link_crossed shape (q - place_count shape) ≡ Some (link_of shape q) =
                        sym (link_crossed-lap shape (q - place_count shape) (omega arith)) ∙ ap (λ n. link_crossed shape n) lap ∙ over ∙ ap (λ k. Some k) (sym at) in
                        noted_past (least_crossing v) (place_count shape) r.crossed.items (link_of shape q) q next
                        ∙ sym (cleared.cleared (q - place_count shape) (link_of shape q) (omega arith) (omega arith) before) ∙ sym now
                  ]
            ]
          ]

  -- the record with the new floor
  pub reached_marks : (n : RingRecord) → HasFloor r n spot → AreCleared (λ p i. place_of shape p ≡ i) r.given.items n.given.items (floor_number v) (number spot) →
      AreCleared (λ q j. link_crossed shape q ≡ Some j) r.crossed.items n.crossed.items (floor_number v) (number spot) → FollowsMarks shape (changed shape v (Reaches spot)) n
  reached_marks n has given crossed = search (rules, drop, length, given_now, crossed_now)
