-- What a write gives of a ring that a record follows
use Rattle.ring_knowledge.proofs.UpperLaws.{not-true, IsFromFloor, RingGiving, List, Contains, nat_le, nat_lt, leb-true, subst, gives_is, position_given_is, ◌≡◌, ◌+◌, ◌<◌, ◌≤◌, ◌∷◌, ◌∙◌, ◌&&◌, ℕ, [], true, false, Option, None, Some, refl, ap, sym, arith, get_or, cond, not, max, option_map, IfSome, eq-eqb, ne_eqb, and_parts, AtData, AtLink, Shape, place_count, link_crossed, place_at, number, RingView, floor_number, gives, gives_crossing, due_positions, due_crossings, positions_given, crossings_given, link_of, is_crossing-from, RingRecord, is_noted, Position, Crossing, FollowsMarks, is_the, least_crossing, positions_of, crossings_of, rules, and_right, both_ways, noted_due, false_unless, filter_none, filter_only, link_of-crossed, data_is, link_is, Gives, gives-true, GivesCrossing, gives_crossing-true, place_of}

module _ (shape : Shape) (v : RingView) (r : RingRecord) (follows : FollowsMarks shape v r) where
  -- the mark of a due position
  pub given_due : (p : ℕ) → floor_number v ≤ p → p < floor_number v + place_count shape → v.given p ≡ get_or r.given.items (place_of shape p) false
  given_due p low high = follows.given p ∙ noted_due (floor_number v) (place_count shape) r.given.items (place_of shape p) p low high

  -- the mark of a due crossing
  pub crossed_due : (q j : ℕ) → least_crossing v ≤ q → q < least_crossing v + place_count shape → link_crossed shape q ≡ Some j → v.crossed q ≡ get_or r.crossed.items j false
  crossed_due q j low high over = search (rules, is_noted, least_crossing, place_count, link_of, is_crossing-from, noted_due, get_or, link_of-crossed)

  module _ (a w : ℕ) where
    -- no position is given where none would be
    pub positions_none : ((p : ℕ) → gives shape r.floor p a w ≡ false) → positions_given shape v a w ≡ []
    unfolding positions_given due_positions
    positions_none never = search (rules, filter_none)

    pub crossings_none : ((q : ℕ) → gives_crossing shape r.floor q a w ≡ false) → crossings_given shape v a w ≡ []
    unfolding crossings_given due_crossings
    crossings_none never = search (rules, filter_none)

    -- nor where the due one is given already
    pub positions_marked : (i u : ℕ) → place_at shape a ≡ Some (AtData i u) → get_or r.given.items i false ≡ true → positions_given shape v a w ≡ []
    unfolding positions_given due_positions
    positions_marked i u at marked =
        filter_none (λ p. not (v.given p) && gives shape v.floor p a w) (floor_number v) (place_count shape)
        (λ p low high. false_unless (not (v.given p) && gives shape v.floor p a w) (λ h.
        let parts = and_parts (not (v.given p)) (gives shape v.floor p a w) h in
        let g : Gives shape follows.allowed v.floor p a w = gives-true shape follows.allowed v.floor p a w parts.1 in
        let here = (data_is (place_of shape p) 3 i u (sym g.word_at ∙ at)).0 in
        both_ways (v.given p) (not-true (v.given p) parts.0) (given_due p low high ∙ ap (λ n. get_or r.given.items n false) here ∙ marked)))

    pub crossings_marked : (j u : ℕ) → place_at shape a ≡ Some (AtLink j u) → get_or r.crossed.items j false ≡ true → crossings_given shape v a w ≡ []
    unfolding crossings_given due_crossings
    crossings_marked j u at marked =
        filter_none (λ q. not (v.crossed q) && gives_crossing shape v.floor q a w) (floor_number v) (place_count shape + 1)
        (λ q low high. false_unless (not (v.crossed q) && gives_crossing shape v.floor q a w) (λ h.
        let parts = and_parts (not (v.crossed q)) (gives_crossing shape v.floor q a w) h in
        let found = gives_crossing-true shape follows.allowed v.floor q a w parts.1 in
        let i : ℕ = found.0 in
        let g : GivesCrossing shape follows.allowed v.floor q i a w = found.1 in
        let here = (link_is i 3 j u (sym g.word_at ∙ at)).0 in
        both_ways (v.crossed q) (not-true (v.crossed q) parts.0) (crossed_due q i g.from g.within g.over ∙ ap (λ n. get_or r.crossed.items n false) here ∙ marked)))

    -- a position that isn't given yet
    pub positions_one : (i q : ℕ) → get_or r.given.items i false ≡ false → number r.floor ≤ q → q < number r.floor + place_count shape → place_of shape q ≡ i →
        ((p : ℕ) → gives shape r.floor p a w ≡ is_the (Some q) p) → positions_given shape v a w ≡ q ∷ []
    unfolding positions_given due_positions
    positions_one i q free low high here gives_it =
        let floor = ap number follows.floor in
        let low' : floor_number v ≤ q = omega arith in
        let high' : q < floor_number v + place_count shape = omega arith in
        let not_given : v.given q ≡ false = given_due q low' high' ∙ ap (λ n. get_or r.given.items n false) here ∙ free in
        let one : (not (v.given q) && gives shape v.floor q a w) ≡ true =
        ap (λ b. not b && gives shape v.floor q a w) not_given ∙ ap (λ f. gives shape f q a w) follows.floor ∙ gives_it q ∙ eq-eqb q q refl in
        filter_only (λ p. not (v.given p) && gives shape v.floor p a w) (floor_number v) (place_count shape) q low' high'
        (λ p l u other. and_right (not (v.given p)) (gives shape v.floor p a w) (ap (λ f. gives shape f p a w) follows.floor ∙ gives_it p ∙ ne_eqb p q other))
        ∙ ap (λ b. cond b (q ∷ []) []) one

    -- a crossing that isn't given yet
    pub crossings_one : (j q : ℕ) → get_or r.crossed.items j false ≡ false → max (number r.floor) 1 ≤ q → q < max (number r.floor) 1 + place_count shape → link_crossed shape q ≡ Some j →
        ((n : ℕ) → gives_crossing shape r.floor n a w ≡ is_the (Some q) n) → crossings_given shape v a w ≡ q ∷ []
    unfolding crossings_given due_crossings
    crossings_one j q free low high over gives_it =
        let floor = ap number follows.floor in
        let low' : least_crossing v ≤ q = omega arith in
        let high' : q < least_crossing v + place_count shape = omega arith in
        let not_crossed : v.crossed q ≡ false = crossed_due q j low' high' over ∙ free in
        let one : (not (v.crossed q) && gives_crossing shape v.floor q a w) ≡ true =
        ap (λ b. not b && gives_crossing shape v.floor q a w) not_crossed ∙ ap (λ f. gives_crossing shape f q a w) follows.floor ∙ gives_it q ∙ eq-eqb q q refl in
        filter_only (λ n. not (v.crossed n) && gives_crossing shape v.floor n a w) (floor_number v) (place_count shape + 1) q (omega arith) (omega arith)
        (λ n l u other. and_right (not (v.crossed n)) (gives_crossing shape v.floor n a w) (ap (λ f. gives_crossing shape f n a w) follows.floor ∙ gives_it n ∙ ne_eqb n q other))
        ∙ ap (λ b. cond b (q ∷ []) []) one

    -- what is given of a place that isn't given yet: o is what the write would give
    pub positions_found : (i : ℕ) (o : Option ℕ) → get_or r.given.items i false ≡ false → ((p : ℕ) → gives shape r.floor p a w ≡ is_the o p) →
        IfSome o (λ q. (number r.floor ≤ q) × (q < number r.floor + place_count shape) × (place_of shape q ≡ i)) → positions_given shape v a w ≡ positions_of (option_map Position o)
    positions_found i None free gives_it due = positions_none gives_it
    positions_found i (Some q) free gives_it due = positions_one i q free due.0 due.1 due.2 gives_it

    -- and of such a Link
    pub crossings_found : (j : ℕ) (o : Option ℕ) → get_or r.crossed.items j false ≡ false → ((q : ℕ) → gives_crossing shape r.floor q a w ≡ is_the o q) →
        IfSome o (λ q. (max (number r.floor) 1 ≤ q) × (q < max (number r.floor) 1 + place_count shape) × (link_crossed shape q ≡ Some j)) → crossings_given shape v a w ≡ crossings_of (option_map Crossing o)
    crossings_found j None free gives_it due = crossings_none gives_it
    crossings_found j (Some q) free gives_it due = crossings_one j q free due.0 due.1 due.2 gives_it

-- a position is no crossing
pub no_crossing_named : (o : Option ℕ) → [] ≡ crossings_of (option_map Position o)
no_crossing_named o = grind arith

pub no_position_named : (o : Option ℕ) → [] ≡ positions_of (option_map Crossing o)
no_position_named o = grind arith

-- a position that a write gives isn't below the floor
pub given_at : (shape : Shape) (v : RingView) (a w : ℕ) (giving : Option RingGiving) (p : ℕ) → positions_given shape v a w ≡ positions_of giving → giving ≡ Some (Position p) → floor_number v ≤ p
given_at shape v a w giving p is at =
    let named : Contains (positions_given shape v a w) p = subst (λ (xs : List ℕ). Contains xs p) (sym (is ∙ ap positions_of at)) (0, omega arith, refl) in
    let due = (gives_is shape v.floor p a w (position_given_is shape v a w p named).1).due in
    leb-true (floor_number v) p (and_parts (nat_le (floor_number v) p) (nat_lt p (floor_number v + place_count shape)) due).0

pub given_from : (shape : Shape) (v : RingView) (a w : ℕ) (giving : Option RingGiving) → positions_given shape v a w ≡ positions_of giving → IsFromFloor v giving
given_from shape v a w (Some (Position p)) is = given_at shape v a w (Some (Position p)) p is refl
given_from shape v a w _ is = tt
