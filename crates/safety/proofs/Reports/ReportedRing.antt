-- A take that is reported: what the event names, and the ring behind it
use Rattle.safety.proofs.LowerLaws.{rules, Bool, Option, subst, true, false, Take, Block, take_at, names, has_event_data, named_by, names_value, names_address, cases_Bool, inl, inr, ◌≡◌, ◌+◌, ◌-◌, ◌<◌, ◌≤◌, ◌∙◌, ℕ, suc, zero, List, length, drop, map, Some, position, arith, refl, sym, ap, get_or, length-drop, eqb-true, drop-drop, range_with_len, position-Some, length-map-range_with_len, get_or-map-range_with_len, Spot, Data, Shape, address_of, rank, number, after, IsShape, RingView, declared, floor_number, named, RingKeeps, rank_least, rank_most, next_least, named_spot-near, given_count_declared, given_count_near, takes_of, RingState, RingMatches, Unreported, ceiling_given, number_after, held_from, by_value, by_address}
use Rattle.safety.proofs.StepsLeave.FloorMoves.{ceiling_grows}

-- ---- places in a list of takes

-- a range without its first elements
pub drop_range : {X : Type 0} (f : ℕ → X) (F n m : ℕ) → m ≤ n → drop m (map f (range_with_len F n)) ≡ map f (range_with_len (F + m) (n - m))
drop_range f F n zero h = ap (λ a. map f (range_with_len a n)) (sym (none F)) ∙ ap (λ b. map f (range_with_len (F + 0) b)) (sym (all n))
  where
    none : (a : ℕ) → a + 0 ≡ a
    none a = omega arith

    all : (a : ℕ) → a - 0 ≡ a
    all a = omega arith
drop_range f F zero (suc m) h = absurd (omega arith)
drop_range f F (suc n) (suc m) h =
    drop_range f (F + 1) n m (omega arith) ∙ ap (λ a. map f (range_with_len a (n - m))) (on F m) ∙ ap (λ b. map f (range_with_len (F + suc m) b)) (less n m)
  where
    on : (a b : ℕ) → a + 1 + b ≡ a + suc b
    on a b = omega arith

    less : (a b : ℕ) → a - b ≡ suc a - suc b
    less a b = omega arith

-- ---- which take an event names

-- the takes that are unreported
abbrev pub open_takes : RingState → List Take
open_takes s = drop s.reported (takes_of s.events)

module _ (shape : Shape) (is : IsShape shape) (memory : ℕ → ℕ) (v : RingView) (k : RingKeeps shape memory v) (s : RingState) (t : Spot) (m : RingMatches shape v s t) (u : Unreported shape v s t) where
  pub low : floor_number v ≤ number t
  low = omega (arith, m.reached, rank_least v.floor, rank_most t)

  pub count : length (open_takes s) ≡ number t - floor_number v
  count = ap (λ l. length l) u.takes ∙ length-map-range_with_len (take_at shape v.queue) (floor_number v) (number t - floor_number v)

  -- with the floor at a spot up to the pointer's, and the takes before it reported, no others are
  pub floor_unreported : (f : Spot) (o : Option ℕ) (a : Bool) (e : ℕ) → floor_number v + e ≡ number f → number f ≤ number t → Unreported shape (record v { floor = f; held = o }) (record s { active = a; reported = s.reported + e }) t
  floor_unreported f o a e at below =
      let long = length-drop s.reported (takes_of s.events) in
      let rest : number t - floor_number v - e ≡ number t - number f = omega arith in
      record {
        takes = sym (drop-drop e s.reported (takes_of s.events)) ∙ ap (λ x. drop e x) u.takes
            ∙ drop_range (take_at shape v.queue) (floor_number v) (number t - floor_number v) e (omega arith) ∙ (λ j. map (take_at shape v.queue) (range_with_len (at j) (rest j)));
        most = omega (arith, u.most, count);
      }

  take_there : (i : ℕ) → floor_number v + i < number t → get_or (open_takes s) i (take_at shape v.queue 0) ≡ take_at shape v.queue (floor_number v + i)
  take_there i inside =
      ap (λ l. get_or l i (take_at shape v.queue 0)) u.takes
      ∙ get_or-map-range_with_len (take_at shape v.queue) (floor_number v) (number t - floor_number v) i (floor_number v + i) (take_at shape v.queue 0) (omega arith) refl

  -- the position of a take that an event names
  pub record Reported (b : Block) (n : ℕ) : Type 0 where
    pub within : floor_number v + n < number t
    pub named_is : named_by shape v b ≡ Some (Data (floor_number v + n))

  pub named_near : (p : ℕ) → floor_number v ≤ p → p < number t → named shape v (address_of shape p) ≡ Some (Data p)
  unfolding named
  named_near p from below =
      let high = ceiling_given shape is memory v k in
      let within = given_count_declared shape is memory v k in
      let near = given_count_near shape is memory v k in
      let top = rank_most v.floor in
      let bottom = rank_least v.floor in
      named_spot-near shape is v.floor (declared v) (Data p) k.is_spot refl (omega arith) (omega (arith, m.below)) (omega (arith, m.below))

  -- an event names the take of a position, and by a value none before it
  pub names_position : (b : Block) (p : ℕ) → floor_number v ≤ p → p < number t → names b (take_at shape v.queue p) ≡ true →
      (has_event_data b ≡ true → (q : ℕ) → floor_number v ≤ q → q < p → names b (take_at shape v.queue q) ≡ false) → named_by shape v b ≡ Some (Data p)
  names_position b p from below named_here first =
      let high = ceiling_given shape is memory v k in
      let within = given_count_declared shape is memory v k in
      elim (cases_Bool (has_event_data b)) [
        | inl tells ↦ by_value shape v b p tells (grind (arith, names_value, m.below, first tells))
        | inr tells ↦ search (rules, by_address, names_address, named_near, eqb-true)
      ]

  pub reported_is : (b : Block) (n : ℕ) → position (names b) (open_takes s) ≡ Some n → Reported b n
  reported_is b n at =
      let found = position-Some (names b) (open_takes s) n (take_at shape v.queue 0) at in
      let within : floor_number v + n < number t = omega (arith, found.0, count) in
      let each : (i : ℕ) → i ≤ n → names b (get_or (open_takes s) i (take_at shape v.queue 0)) ≡ names b (take_at shape v.queue (floor_number v + i)) = λ i near. ap (names b) (take_there i (omega arith)) in
      record {
        within = within;
        named_is = names_position b (floor_number v + n) (omega arith) within (sym (each n (omega arith)) ∙ found.1) (λ tells q from below.
            let here : q ≡ floor_number v + (q - floor_number v) = omega arith in
            ap (λ p. names b (take_at shape v.queue p)) here ∙ sym (each (q - floor_number v) (omega arith)) ∙ found.2 (q - floor_number v) (omega arith));
      }

  -- ---- behind it

  abbrev pub moved_to : ℕ → RingView
  moved_to p = record v { floor = after shape p }

  pub floor_before : (p : ℕ) → p < number t → rank (after shape p) ≤ rank t
  floor_before p below = let high = rank_least t in next_least shape (Data p) t m.is_spot (omega arith)

  pub reported_matches : (b : Block) (n c : ℕ) → Reported b n → RingMatches shape (moved_to (floor_number v + n)) (record s { reported = c }) t
  reported_matches b n c r =
      held_from shape v s t (after shape (floor_number v + n)) v.held s.active c m (floor_before (floor_number v + n) r.within)
      (omega (arith, m.below, ceiling_grows shape v (floor_number v + n) (omega arith))) m.opened

  pub reported_unreported : (b : Block) (n : ℕ) → Reported b n → Unreported shape (moved_to (floor_number v + n)) (record s { reported = s.reported + n + 1 }) t
  reported_unreported b n r =
      let p : ℕ = floor_number v + n in
      let next = number_after shape p in
      subst (λ c. Unreported shape (moved_to p) (record s { reported = c }) t) (omega arith) (floor_unreported (after shape p) v.held s.active (n + 1) (omega arith) (omega (arith, r.within)))
