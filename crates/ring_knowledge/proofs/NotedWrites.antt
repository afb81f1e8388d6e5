-- A record with the mark of what a write gives follows what is known after the write
use Rattle.ring_knowledge.proofs.UpperLaws.{none-some, ◌≡◌, ◌+◌, ◌<◌, ◌≤◌, ◌∷◌, ◌∙◌, ◌==◌, ◌&&◌, ◌||◌, ℕ, List, [], Bool, true, false, None, Some, refl, get_or, ap, sym, arith, inl, inr, length, set, subst, Contains, eq-eqb, ne_eqb, length-set, cases_Bool, false≢true, Shape, place_count, links, link_crossed, is_crossing, RingView, Writes, changed, floor_number, gives, gives_crossing, positions_given, crossings_given, is_step_given, is_way_given, link_of, crossed_link, is_crossing-from, gives_is, position_given, position_given_is, crossing_given, crossing_given_is, RingRecord, is_noted, FollowsMarks, FollowsRing, least_crossing, or_left, rules, false_unless, noted_more, same_due, same_due_crossing, link_of-crossed, GivesCrossing, gives_crossing-true, place_of, place_below}

none_in : (n : ℕ) → Contains [] n → ⊥
none_in n c = omega (arith, c.1)

one_in : (m n : ℕ) → Contains (m ∷ []) n → n ≡ m
one_in m n c = search (rules, length, get_or)

-- the numbers that are given behind a write, where those of the list are given by it
module _ (given gives_it : ℕ → Bool) (now : List ℕ) (there : (n : ℕ) → given n ≡ false → gives_it n ≡ true → Contains now n) where
  pub none_more : now ≡ [] → (n : ℕ) → (given n || gives_it n) ≡ given n
  none_more none n = search (rules, cases_Bool, false_unless, none_in)

  pub one_more : (m : ℕ) → now ≡ m ∷ [] → gives_it m ≡ true → (n : ℕ) → (given n || gives_it n) ≡ (given n || (n == m))
  one_more m one is n = search (rules, eq-eqb, false_unless, one_in, ne_eqb)

-- a record with other marks and all else the same
pub record HasMarks (r n : RingRecord) (given crossed : List Bool) : Type 0 where
  pub forgotten : n.forgotten ≡ r.forgotten
  pub blocks : n.blocks.items ≡ r.blocks.items
  pub lengths : n.lengths.items ≡ r.lengths.items
  pub floor : n.floor ≡ r.floor
  pub held : n.held ≡ r.held
  pub withdrawn : n.withdrawn ≡ r.withdrawn
  pub free : n.free ≡ r.free
  pub given_is : n.given.items ≡ given
  pub crossed_is : n.crossed.items ≡ crossed

module _ (shape : Shape) (v : RingView) (a w : ℕ) where
  -- what is given behind a write that gives this
  positions_still : positions_given shape v a w ≡ [] → (p : ℕ) → (v.given p || gives shape v.floor p a w) ≡ v.given p
  positions_still = none_more v.given (λ p. gives shape v.floor p a w) (positions_given shape v a w) (position_given shape v a w)

  crossings_still : crossings_given shape v a w ≡ [] → (q : ℕ) → (v.crossed q || gives_crossing shape v.floor q a w) ≡ v.crossed q
  crossings_still = none_more v.crossed (λ q. gives_crossing shape v.floor q a w) (crossings_given shape v a w) (crossing_given shape v a w)

  position_gives : (m : ℕ) → positions_given shape v a w ≡ m ∷ [] → gives shape v.floor m a w ≡ true
  position_gives m one = (position_given_is shape v a w m (subst (λ xs. Contains xs m) (sym one) (0, omega arith, refl))).1

  crossing_gives : (m : ℕ) → crossings_given shape v a w ≡ m ∷ [] → gives_crossing shape v.floor m a w ≡ true
  crossing_gives m one = (crossing_given_is shape v a w m (subst (λ xs. Contains xs m) (sym one) (0, omega arith, refl))).1

  positions_more : (m : ℕ) → positions_given shape v a w ≡ m ∷ [] → (p : ℕ) → (v.given p || gives shape v.floor p a w) ≡ (v.given p || (p == m))
  positions_more m one = one_more v.given (λ p. gives shape v.floor p a w) (positions_given shape v a w) (position_given shape v a w) m one (position_gives m one)

  crossings_more : (m : ℕ) → crossings_given shape v a w ≡ m ∷ [] → (q : ℕ) → (v.crossed q || gives_crossing shape v.floor q a w) ≡ (v.crossed q || (q == m))
  crossings_more m one = one_more v.crossed (λ q. gives_crossing shape v.floor q a w) (crossings_given shape v a w) (crossing_given shape v a w) m one (crossing_gives m one)

  module _ (r : RingRecord) (follows : FollowsMarks shape v r) where
    -- marks that note what is given behind the write
    with_marks : (given crossed : List Bool) → length given ≡ length r.given.items → length crossed ≡ length r.crossed.items →
        ((p : ℕ) → (v.given p || gives shape v.floor p a w) ≡ is_noted (floor_number v) (place_count shape) given (place_of shape p) p) →
        ((q : ℕ) → (v.crossed q || gives_crossing shape v.floor q a w) ≡ (is_crossing shape q && is_noted (least_crossing v) (place_count shape) crossed (link_of shape q) q)) →
        (n : RingRecord) → HasMarks r n given crossed → FollowsMarks shape (changed shape v (Writes a w)) n
    with_marks given crossed places segments positions crossings n has = grind (arith, or_left)

    -- a write that gives nothing
    pub nothing_noted : FollowsRing shape v r → positions_given shape v a w ≡ [] → crossings_given shape v a w ≡ [] → FollowsRing shape (changed shape v (Writes a w)) r
    unfolding is_step_given is_way_given
    nothing_noted known no_position no_crossing = search (rules, with_marks, positions_still, crossings_still)

    -- a write that gives position m
    pub position_noted : (m : ℕ) → positions_given shape v a w ≡ m ∷ [] → crossings_given shape v a w ≡ [] →
        (n : RingRecord) → HasMarks r n (set r.given.items (place_of shape m) true) r.crossed.items → FollowsMarks shape (changed shape v (Writes a w)) n
    position_noted m one no_crossing n has =
        let is = gives_is shape v.floor m a w (position_gives m one) in
        let low = is.from in
        let high = is.within in
        let below = place_below shape follows.allowed m in
        with_marks (set r.given.items (place_of shape m) true) r.crossed.items (length-set r.given.items (place_of shape m) true) refl
        (λ p. positions_more m one p ∙ ap (λ b. b || (p == m)) (follows.given p)
        ∙ sym (noted_more (floor_number v) (place_count shape) r.given.items (place_of shape p) (place_of shape m) p m low high (omega (arith, follows.places))
        (λ same. ap (λ k. place_of shape k) same)
        (λ l u same. same_due shape follows.allowed (floor_number v) p m l u low high same)))
        (λ q. crossings_still no_crossing q ∙ follows.crossed q)
        n has

    -- a crossing that is given leads over a Link
    pub over_a_link : (m : ℕ) → crossings_given shape v a w ≡ m ∷ [] → link_crossed shape m ≡ None → ⊥
    over_a_link m one none = grind (arith, gives_crossing-true, crossing_gives, none-some, gives_crossing-true shape follows.allowed v.floor m a w (crossing_gives m one))

    -- a write that gives crossing m, over the Link of segment j
    pub crossing_noted : (j m : ℕ) → j < length (links shape) → link_crossed shape m ≡ Some j → positions_given shape v a w ≡ [] → crossings_given shape v a w ≡ m ∷ [] →
        (n : RingRecord) → HasMarks r n r.given.items (set r.crossed.items j true) → FollowsMarks shape (changed shape v (Writes a w)) n
    crossing_noted j m inside over no_position one n has =
        let found = gives_crossing-true shape follows.allowed v.floor m a w (crossing_gives m one) in
        let i : ℕ = found.0 in
        let is : GivesCrossing shape follows.allowed v.floor m i a w = found.1 in
        let low : least_crossing v ≤ m = is.from in
        let high : m < least_crossing v + place_count shape = is.within in
        with_marks r.given.items (set r.crossed.items j true) refl (length-set r.crossed.items j true)
        (λ p. positions_still no_position p ∙ follows.given p)
        (λ q. crossings_more m one q ∙ ap (λ b. b || (q == m)) (follows.crossed q) ∙ elim (cases_Bool (is_crossing shape q)) [
          | inl crossing ↦
              let there = crossed_link shape q crossing in
              let at = link_of-crossed shape q there.0 there.1 in
              let of_m = link_of-crossed shape m j over in
              ap (λ b. (b && is_noted (least_crossing v) (place_count shape) r.crossed.items (link_of shape q) q) || (q == m)) crossing
              ∙ sym (noted_more (least_crossing v) (place_count shape) r.crossed.items (link_of shape q) j q m low high (omega (arith, follows.segments))
              (λ same. ap (λ k. link_of shape k) same ∙ of_m)
              (λ l u same. same_due_crossing shape follows.allowed (least_crossing v) j q m l u low high (there.1 ∙ ap (λ k. Some k) (sym at ∙ same)) over))
              ∙ ap (λ b. b && is_noted (least_crossing v) (place_count shape) (set r.crossed.items j true) (link_of shape q) q) (sym crossing)
          | inr none ↦
              let other : (q == m) ≡ false = ne_eqb q m (λ same. false≢true (sym none ∙ ap (λ k. is_crossing shape k) same ∙ is_crossing-from shape m j over)) in
              ap (λ b. (b && is_noted (least_crossing v) (place_count shape) r.crossed.items (link_of shape q) q) || (q == m)) none ∙ other
              ∙ ap (λ b. b && is_noted (least_crossing v) (place_count shape) (set r.crossed.items j true) (link_of shape q) q) (sym none)
        ])
        n has
