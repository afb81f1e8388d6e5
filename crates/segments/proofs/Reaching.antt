-- A spot that is reached, a ring that is opened or held: what the rules keep of a ring stays
use Rattle.segments.proofs.MiddleLaws.{cases_Bool, ceiling, IsRestored, IsShownTo, ◌≡◌, ◌≢◌, ◌+◌, ◌-◌, ◌%◌, ◌<◌, ◌≤◌, ◌∙◌, ℕ, true, false, [], Option, None, Some, arith, refl, sym, inl, inr, get_or, cases_lt, cases_eq, false≢true, none-some, same_Some, slice_get-get_or, Block, word, with_cycle, Spot, Shape, place_count, address_of, cycle_of, link_address, number, IsShape, RingView, Reaches, Opens, Holds, changed, declared, floor_number, is_due, is_crossing_due, is_step_given, is_way_given, given_count, descriptor_length, RingKeeps, MayReach, MayHold, rules, place_count_pos, address_of-lap, cycle_of_bit, cycle_of_flips, crossed_link, is_crossing-lap, link_address-lap, due_is, due_from, crossing_due_is, crossing_due_from, given_below, given_count_least, given_count_stops, given_count_still, ceiling_held, step_is, step_from, whole_more, cases_option, ◌⊎◌, is_wrong_link, block_at, link_crossed, is_not_whole}
use Rattle.segments.proofs.SpotOrder.{rank_least}

-- the view with another floor and another number at which the ring is held
abbrev pub moved : RingView → Spot → Option ℕ → RingView
moved v t held = record v { floor = t; held = held }

module _ (shape : Shape) (is : IsShape shape) (memory : ℕ → ℕ) (v : RingView) (k : RingKeeps shape memory v) where
  -- ---- what is given

  pub given_count_declared : given_count shape v ≤ declared v
  given_count_declared = search (rules, cases_lt (declared v) (given_count shape v), k.given_declared (declared v), step_is shape v (declared v), given_below shape v (declared v))

  -- a place stays empty, so what is given ends less than a lap ahead of the floor
  pub given_count_near : given_count shape v < floor_number v + place_count shape
  given_count_near = omega (arith, given_count_declared, k.room)

  steps_to_floor : (p : ℕ) → p < floor_number v → is_step_given shape v p ≡ true
  steps_to_floor p h = step_from shape v p (k.passed p h) (λ crossing. k.passed_links p crossing (omega (arith, rank_least v.floor)))

  -- the floor isn't ahead of what is given
  pub floor_given : floor_number v ≤ given_count shape v
  floor_given = given_count_least shape v (floor_number v) (omega arith) steps_to_floor

  -- a spot that may be reached isn't ahead of what is given
  pub reached_given : (t : Spot) → MayReach shape v t → number t ≤ given_count shape v
  reached_given t may =
      search (rules, cases_lt (given_count shape v) (number t), step_from shape v (given_count shape v), may.passed (given_count shape v), may.passed_links (given_count shape v), rank_least t, given_count_stops shape v given_count_near, false≢true)

  -- ---- what is free

  -- a ring of which something is free is held, at its ceiling
  held_if_free : (p : ℕ) → v.free p ≡ true → (m : ℕ) × (v.held ≡ Some m) × (p < m → p < ceiling shape v)
  held_if_free p free = elim (cases_option v.held) [
    | inl none ↦ absurd (false≢true (sym (k.open_restored none p) ∙ free))
    | inr some ↦ (some.0, some.1, λ below. omega (arith, ceiling_held shape v some.0 some.1))
  ]

  -- ---- a lap behind

  cycle_bit : (d : Block) (c : ℕ) → c < 2 → word (with_cycle d c) 3 % 2 ≡ c
  cycle_bit d c l = omega arith

  -- a position that is given, not passed and not free shows its own cycle
  pub kept_cycle : (p : ℕ) → floor_number v ≤ p → v.given p ≡ true → v.free p ≡ false → memory (address_of shape p + 12) % 2 ≡ cycle_of shape p
  kept_cycle p low g kept =
      let none : Block = record { w = [] } in
      let d : Block = get_or v.queue p none in
      search (rules, slice_get-get_or v.queue p none (k.given_declared p g), k.kept p d low g kept, cycle_bit d (cycle_of shape p) (cycle_of_bit shape p))

  -- and so does one that is free, below the ceiling
  given_cycle : (p : ℕ) → floor_number v ≤ p → v.given p ≡ true → (v.free p ≡ true → p < ceiling shape v) → memory (address_of shape p + 12) % 2 ≡ cycle_of shape p
  given_cycle p low g below = search (rules, kept_cycle)

  -- so where the position a lap before is given, the place doesn't show the cycle of this one
  behind_given : (p : ℕ) → floor_number v + place_count shape ≤ p → v.given (p - place_count shape) ≡ true →
      (v.free (p - place_count shape) ≡ true → p - place_count shape < ceiling shape v) → memory (address_of shape p + 12) % 2 ≢ cycle_of shape p
  behind_given p above g below = search (rules, given_cycle, address_of-lap, cycle_of_flips)

  pub crossed_due : (q : ℕ) → floor_number v ≤ q → v.crossed q ≡ true → is_crossing_due shape v.floor q ≡ true
  crossed_due q low g = crossing_due_from shape v.floor q (record { crossing = k.crossed_is_crossing q g; from = low; within = k.crossed_within q g })

  -- the same of a Link
  link_behind_given : (q : ℕ) → floor_number v + place_count shape ≤ q → 0 < q - place_count shape → v.crossed (q - place_count shape) ≡ true →
      memory (link_address shape q + 12) % 2 ≢ cycle_of shape (q - 1)
  link_behind_given q above some g =
      let lap : q - place_count shape + place_count shape ≡ q = omega arith in
      let one : q - place_count shape - 1 + place_count shape ≡ q - 1 = omega arith in
      let found = crossed_link shape (q - place_count shape) (k.crossed_is_crossing (q - place_count shape) g) in
      search (rules, k.kept_link (q - place_count shape) found.0 (crossed_due (q - place_count shape) (omega arith) g) g found.1, link_address-lap, cycle_of_flips)

  -- ---- from a later floor

  module _ (t : Spot) (may : MayReach shape v t) where
    not_yet_from : IsShownTo shape v (number t) → (p : ℕ) → is_due shape t p ≡ true → v.given p ≡ false → memory (address_of shape p + 12) % 2 ≢ cycle_of shape p
    not_yet_from shown p due g =
        search (rules, cases_lt p (floor_number v + place_count shape), place_count_pos shape is, due_is shape t p due, k.not_yet p, due_from shape v.floor p, behind_given p, may.passed (p - place_count shape), shown (p - place_count shape), may.later)

    not_yet_link_from : (q : ℕ) → is_crossing_due shape t q ≡ true → v.crossed q ≡ false → memory (link_address shape q + 12) % 2 ≢ cycle_of shape (q - 1)
    not_yet_link_from q is_due g =
        let due = crossing_due_is shape t q is_due in
        search (rules, cases_lt q (floor_number v + place_count shape), cases_eq q (place_count shape), due, k.not_yet_link q, crossing_due_from shape v.floor q, may.later, is_crossing-lap shape (q - place_count shape), link_behind_given q, may.passed_links (q - place_count shape), rank_least t)

    step_stays : (held : Option ℕ) (p : ℕ) → is_step_given shape v p ≡ is_step_given shape (moved v t held) p
    unfolding is_step_given is_way_given
    step_stays held p = refl

    length_stays : (held : Option ℕ) (p : ℕ) → descriptor_length (moved v t held) p ≡ descriptor_length v p
    unfolding descriptor_length
    length_stays held p = refl

    moved_count_declared : (held : Option ℕ) → given_count shape (moved v t held) ≤ declared v
    moved_count_declared held =
        search (rules, cases_lt (declared v) (given_count shape (moved v t held)), step_is shape (moved v t held) (declared v), declared, given_below shape (moved v t held) (declared v), k.given_declared (declared v))

    -- a floor that moves on changes nothing of what is given
    pub given_count-moved : (held : Option ℕ) → given_count shape v ≡ given_count shape (moved v t held)
    given_count-moved held = search (rules, given_count_still, step_stays, given_count_near, moved_count_declared)

    -- the pointer reaches a spot, and the ring is open then, or held at a number from the spot's up to what is given; where something is
    -- free it is held, and shows its cycle up to there
    pub moved_keeps : (held : Option ℕ) → ((m : ℕ) → held ≡ Some m → (number t ≤ m) × (m ≤ given_count shape v)) →
        ((p : ℕ) → v.free p ≡ true → (m : ℕ) × (held ≡ Some m) × (p < m → p < ceiling shape v)) → RingKeeps shape memory (moved v t held)
    moved_keeps held within restored =
        let floor_at : floor_number (moved v t held) ≡ number t = refl in
        let within_by : (p : ℕ) → v.given p ≡ true → p < number t + place_count shape = λ p g. omega (arith, k.given_within p g, may.later) in
        let crossed_by : (q : ℕ) → v.crossed q ≡ true → (q < number t + place_count shape) ⊎ ((q ≡ place_count shape) × (number t ≡ 0)) = λ q g. search (rules, k.crossed_within q g, may.later, cases_eq (number t) 0) in
        let low : (p : ℕ) → number t ≤ p → floor_number v ≤ p = λ p above. omega (arith, may.later) in
        let not_yet_by = not_yet_from (λ p free below. let r = restored p free in r.2 (omega (arith, (within r.0 r.1).0))) in
        let links : (q i : ℕ) → is_crossing_due shape t q ≡ true → v.crossed q ≡ true → link_crossed shape q ≡ Some i → (is_wrong_link shape i (block_at memory (link_address shape q)) ≡ false) × (memory (link_address shape q + 12) % 2 ≡ cycle_of shape (q - 1)) =
        λ q i due g at.
        k.kept_link q i (crossed_due q (omega (arith, may.later, (crossing_due_is shape t q due).from)) g) g at in
        let whole_by : (p : ℕ) → v.given p ≡ true → is_not_whole shape (moved v t held) p ≡ false = λ p g.
        whole_more shape v (moved v t held) p (record { given = λ q h. h; crossed = λ q h. h }) (length_stays held p) (k.whole p g) in
        let held_by : (m : ℕ) → held ≡ Some m → MayHold shape (moved v t held) m = λ m at. record {
          from = (within m at).0;
          to = omega (arith, (within m at).1, given_count-moved held);
        } in
        let shows : (p : ℕ) → number t ≤ p → p < ceiling shape (moved v t held) → v.free p ≡ true → memory (address_of shape p + 12) % 2 ≡ cycle_of shape p = λ p above high free.
        let r = restored p free in
        k.free_shows p (low p above) (r.2 (omega (arith, ceiling_held shape (moved v t held) r.0 r.1))) free in
        let open_by : held ≡ None → (p : ℕ) → v.free p ≡ false = λ none p. search (rules, cases_Bool (v.free p), restored p, none-some) in
        search (rules, k, may, low, k.kept, within_by, crossed_by, not_yet_by, links, not_yet_link_from, whole_by, held_by, shows, open_by)

    -- a ring that is held goes no further than the number at which it is held
    pub reaches_keeps : ((m : ℕ) → v.held ≡ Some m → number t ≤ m) → RingKeeps shape memory (changed shape v (Reaches t))
    reaches_keeps within = moved_keeps v.held (λ m at. (within m at, (k.held m at).to)) held_if_free

    -- the pointer reaches a spot and stands there, or has begun the block there
    pub reaches_and_holds_keeps : (n : ℕ) → number t ≤ n → n ≤ given_count shape v → IsShownTo shape v n → RingKeeps shape memory (changed shape (changed shape v (Reaches t)) (Holds n))
    reaches_and_holds_keeps n low high shown = moved_keeps (Some n) (λ m at. let same : n ≡ m = same_Some n m at in (omega arith, omega arith)) (λ p free. (n, refl, shown p free))

    -- the other way round it is the same view
    pub holds_and_reaches_keeps : (n : ℕ) → number t ≤ n → n ≤ given_count shape v → IsShownTo shape v n → RingKeeps shape memory (changed shape (changed shape v (Holds n)) (Reaches t))
    holds_and_reaches_keeps n low high shown = reaches_and_holds_keeps n low high shown

  -- ---- the floor stays

  -- the floor itself is reached
  pub floor_reached : MayReach shape v v.floor
  floor_reached = record { is_spot = k.is_spot; later = omega arith; passed = k.passed; passed_links = k.passed_links }

  pub opens_keeps : IsRestored v → RingKeeps shape memory (changed shape v Opens)
  opens_keeps none = moved_keeps v.floor floor_reached None (λ m at. absurd (none-some m at)) (λ p free. absurd (false≢true (sym (none p) ∙ free)))

  pub holds_keeps : (n : ℕ) → MayHold shape v n → IsShownTo shape v n → RingKeeps shape memory (changed shape v (Holds n))
  holds_keeps n may shown =
      moved_keeps v.floor floor_reached (Some n) (λ m at. let same : n ≡ m = same_Some n m at in (omega (arith, may.from), omega (arith, may.to))) (λ p free. (n, refl, shown p free))
