-- What a reset does to a ring that a record follows, and which gaps it has
use Rattle.ring_knowledge.proofs.Words.{◌≡◌, ◌≢◌, ◌+◌, ◌-◌, ◌<◌, ◌≤◌, ◌∙◌, ◌&&◌, ◌||◌, ℕ, suc, zero, Bool, true, false, refl, ap, sym, arith, not, nat_le, le-leb, list_any, Data, Shape, place_count, is_crossing, after, RingView, floor_number, due_positions, is_way_given, is_step_given, given_count, is_reached, are_given, are_ways_given, RingRecord, is_noted, FollowsMarks, FollowsRing, least_crossing, cases_lt, cases_eq, false≢true, and_from, inl, inr, lt-leb, link_of, behind_blocks, first_free, place_of}
use Rattle.ring_knowledge.proofs.MiddleLaws.{any_at, any_none, noted_below}
use Rattle.ring_knowledge.proofs.GivenCount.{count_is}
use Rattle.ring_knowledge.proofs.PassedBlocks.{behind_reached}

-- behind a block there is one
pub behind_block : (shape : Shape) (n : ℕ) → n ≢ 0 → after shape (n - 1) ≡ behind_blocks shape n
unfolding behind_blocks
behind_block shape zero some = absurd (some refl)
behind_block shape (suc p) some = let e : suc p - 1 ≡ p = omega arith in ap (λ q. after shape q) e

-- at first all is reached
first_reached : (shape : Shape) (v : RingView) → is_reached shape v (Data 0) ≡ true
unfolding is_reached are_given are_ways_given
first_reached shape v = refl

first_of : (shape : Shape) → behind_blocks shape 0 ≡ Data 0
unfolding behind_blocks
first_of shape = refl

-- where none of n numbers is free, and where one is and none before it
pub first_none : (v : RingView) (n q : ℕ) → ((p : ℕ) → q ≤ p → p < q + n → v.free p ≡ false) → first_free v n q ≡ q + n
unfolding first_free
first_none v zero q none = omega arith
first_none v (suc n) q none =
    let here = none q (omega arith) (omega arith) in
    let later = first_none v n (q + 1) (λ p low high. none p (omega arith) (omega arith)) in
    (grind arith)

pub first_at : (v : RingView) (n q p : ℕ) → q ≤ p → p < q + n → ((r : ℕ) → q ≤ r → r < p → v.free r ≡ false) → v.free p ≡ true → first_free v n q ≡ p
unfolding first_free
first_at v zero q p low high none free = absurd (omega arith)
first_at v (suc n) q p low high none free =
    elim (cases_eq q p) [
      | inl same ↦ (grind arith)
      | inr other ↦
          let here = none q (omega arith) (omega arith) in
          let later = first_at v n (q + 1) p (omega arith) (omega arith) (λ r from to. none r (omega arith) to) free in
          (grind arith)
    ]

way_marked : (c x b : Bool) → x ≡ (c && b) → b ≡ true → (not c || x) ≡ true
way_marked c x b is marked = grind arith

not_behind : (a b : Bool) → b ≡ false → (a && b) ≡ false
not_behind a b h = grind arith

module _ (shape : Shape) (v : RingView) (r : RingRecord) where
  -- below the floor all steps are given
  step_below : FollowsMarks shape v r → (q : ℕ) → q < floor_number v → is_step_given shape v q ≡ true
  unfolding is_step_given is_way_given
  step_below marks q below =
      and_from (v.given q) (is_way_given shape v q) (marks.given q ∙ noted_below (floor_number v) (place_count shape) r.given.items (place_of shape q) q below)
      (way_marked (is_crossing shape q) (v.crossed q) (is_noted (least_crossing v) (place_count shape) r.crossed.items (link_of shape q) q) (marks.crossed q)
      (noted_below (least_crossing v) (place_count shape) r.crossed.items (link_of shape q) q (omega arith)))

  module _ (known : FollowsRing shape v r) where
    -- so the floor isn't behind what is given
    pub floor_within : floor_number v ≤ r.count
    floor_within = elim (cases_lt r.count (floor_number v)) [
      | inl below ↦ absurd (false≢true (sym known.stop ∙ step_below known.marks r.count below))
      | inr from ↦ from
    ]

    -- the spot behind all that is given is reached
    pub given_reached : (n : ℕ) → n ≡ given_count shape v → is_reached shape v (behind_blocks shape n) ≡ true
    given_reached zero is = ap (λ t. is_reached shape v t) (first_of shape) ∙ first_reached shape v
    given_reached (suc p) is =
        let e : suc p - 1 ≡ p = omega arith in
        ap (λ t. is_reached shape v t) (sym (behind_block shape (suc p) (omega arith)) ∙ ap (λ q. after shape q) e) ∙ behind_reached shape v r known p (omega arith)

    -- one from the count on makes a gap
    pub gap_at : (p : ℕ) → r.count ≤ p → p < floor_number v + place_count shape → is_noted (floor_number v) (place_count shape) r.given.items (place_of shape p) p ≡ true →
        list_any (λ q. v.given q && nat_le (given_count shape v) q) (due_positions shape v) ≡ true
    unfolding due_positions
    gap_at p from within noted =
        any_at (λ q. v.given q && nat_le (given_count shape v) q) (floor_number v) (place_count shape) p (omega (arith, floor_within)) within
        (and_from (v.given p) (nat_le (given_count shape v) p) (known.marks.given p ∙ noted) (le-leb (given_count shape v) p (omega (arith, count_is shape v r known))))

    -- and without one there is none
    pub no_gap : ((p : ℕ) → r.count ≤ p → p < floor_number v + place_count shape → is_noted (floor_number v) (place_count shape) r.given.items (place_of shape p) p ≡ false) →
        list_any (λ q. v.given q && nat_le (given_count shape v) q) (due_positions shape v) ≡ false
    unfolding due_positions
    no_gap none = any_none (λ q. v.given q && nat_le (given_count shape v) q) (floor_number v) (place_count shape) (λ p low high. elim (cases_lt p r.count) [
      | inl before ↦ not_behind (v.given p) (nat_le (given_count shape v) p) (lt-leb (given_count shape v) p (omega (arith, count_is shape v r known)))
      | inr from ↦ ap (λ b. b && nat_le (given_count shape v) p) (known.marks.given p ∙ none p from high)
    ])
