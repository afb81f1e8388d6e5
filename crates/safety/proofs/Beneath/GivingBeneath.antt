-- What a write gives of a ring it gives also behind an event: what is due only there is a lap behind what is leased, and what was
-- due only before is passed, hence given
use Rattle.safety.proofs.LowerLaws.{◌≡◌, ◌+◌, ◌-◌, ◌<◌, ◌≤◌, ◌⊎◌, ◌||◌, ◌∙◌, ℕ, Bool, true, false, arith, refl, sym, ap, inl, inr, ◌%◌, rules, cycle_of_flips, IsShownTo, cases_lt, cases_eq, false≢true, Shape, IsShape, place_count, address_of, is_crossing, link_address, RingView, floor_number, gives, gives_crossing, RingKeeps, address_of-lap, is_crossing-lap, link_address-lap, rank_least, crossed_due, IsCrossingDue, due_from, gives_is, gives_from, crossing_due_from, gives_crossing_is, gives_crossing_from, both_ways, cycle_of, KeepsCycles, number}
use Rattle.safety.proofs.Rows.SameDriver.{SameGiven}

-- u is the ring behind the event, v before it
pub record RingBehind (shape : Shape) (memory : ℕ → ℕ) (v u : RingView) : Type 0 where
  pub is : IsShape shape
  pub before : RingKeeps shape memory v
  pub behind : RingKeeps shape memory u
  pub same : SameGiven v u
  pub on : floor_number v ≤ floor_number u
  -- what is free and was passed may have been
  pub shown : IsShownTo shape v (floor_number u)

module _ (shape : Shape) (memory : ℕ → ℕ) (v u : RingView) (b : RingBehind shape memory v u) (a x : ℕ) where
  given_there : (p : ℕ) → u.given p ≡ true → v.given p ≡ true
  given_there p g = ap (λ f. f p) (sym b.same.given) ∙ g

  crossed_there : (q : ℕ) → u.crossed q ≡ true → v.crossed q ≡ true
  crossed_there q g = ap (λ f. f q) (sym b.same.crossed) ∙ g

  -- ---- what was due and isn't given is still due

  pub gives_behind : (p : ℕ) → v.given p ≡ false → gives shape v.floor p a x ≡ true → gives shape u.floor p a x ≡ true
  gives_behind p fresh gives_now = search (rules, gives_is, cases_lt, false≢true, given_there, gives_from, due_from)

  crossing_behind : (q : ℕ) → IsCrossingDue shape v.floor q → v.crossed q ≡ false → IsCrossingDue shape u.floor q
  crossing_behind q due fresh =
      elim (cases_lt q (number u.floor)) [
        | inl passed ↦ absurd (false≢true (sym fresh ∙ crossed_there q (b.behind.passed_links q due.crossing (omega (arith, passed, rank_least u.floor)))))
        | inr on ↦ record {
          crossing = due.crossing;
          from = on;
          within = elim due.within [ inl near ↦ inl (omega (arith, near, b.on)) | inr first ↦ later first.0 first.1 ];
        }
      ]
    where
      later : q ≡ place_count shape → number v.floor ≡ 0 → (q < number u.floor + place_count shape) ⊎ ((q ≡ place_count shape) × (number u.floor ≡ 0))
      later at zero = elim (cases_eq (number u.floor) 0) [ inl same ↦ inr (at, same) | inr other ↦ inl (omega (arith, at, other)) ]

  pub crosses_behind : (q : ℕ) → v.crossed q ≡ false → gives_crossing shape v.floor q a x ≡ true → gives_crossing shape u.floor q a x ≡ true
  crosses_behind q fresh gives_now =
      search (rules, gives_crossing_is, v.floor, gives_crossing, u.floor, gives_crossing_from, crossing_due_from, crossing_behind)

  -- ---- what is due and changes no leased word was due

  module _ (keeps : KeepsCycles shape v a x) where
    position_near : (p : ℕ) → p < floor_number u + place_count shape → a ≡ address_of shape p + 12 → x % 2 ≡ cycle_of shape p → p < floor_number v + place_count shape
    position_near p within at cycle =
        elim (cases_lt p (floor_number v + place_count shape)) [
          | inl near ↦ near
          | inr far ↦
              let q : ℕ = p - place_count shape in
              let lap : p - place_count shape + place_count shape ≡ p = omega arith in
              let place : address_of shape p ≡ address_of shape (p - place_count shape) = ap (λ n. address_of shape n) (sym lap) ∙ address_of-lap shape (p - place_count shape) in
              let behind : p - place_count shape < floor_number u = omega arith in
              let given : v.given (p - place_count shape) ≡ true = given_there (p - place_count shape) (b.behind.passed (p - place_count shape) behind) in
              let due = due_from shape v.floor (p - place_count shape) (omega arith) (b.before.given_within (p - place_count shape) given) in
              let before = keeps.blocks (p - place_count shape) due given (λ free. b.shown (p - place_count shape) free behind) (omega arith) in
              absurd (cycle_of_flips shape b.is (p - place_count shape) (ap (λ n. cycle_of shape n) lap ∙ sym cycle ∙ before))
        ]

    pub gives_before : (p : ℕ) → gives shape u.floor p a x ≡ true → gives shape v.floor p a x ≡ true
    gives_before p gives_now =
        let g = gives_is shape u.floor p a x gives_now in
        ap (λ y. gives shape v.floor p y x) g.at ∙ gives_from shape v.floor p x (due_from shape v.floor p (omega (arith, g.from, b.on)) (position_near p g.within g.at g.cycle)) g.cycle

    link_near : (q : ℕ) → IsCrossingDue shape u.floor q → a ≡ link_address shape q + 12 → x % 2 ≡ cycle_of shape (q - 1) → (q < floor_number v + place_count shape) ⊎ ((q ≡ place_count shape) × (floor_number v ≡ 0))
    link_near q due at cycle =
        elim (cases_lt q (floor_number v + place_count shape)) [
          | inl near ↦ inl near
          | inr far ↦ elim (cases_eq q (place_count shape)) [
            | inl first ↦ inr (first, omega arith)
            | inr more ↦
                let crossing : is_crossing shape (q - place_count shape) ≡ true =
                sym (is_crossing-lap shape (q - place_count shape) (omega arith)) ∙ ap (λ n. is_crossing shape n) (omega arith) ∙ due.crossing in
                let place : link_address shape q ≡ link_address shape (q - place_count shape) =
                ap (λ n. link_address shape n) (sym (omega arith)) ∙ link_address-lap shape (q - place_count shape) (omega arith) in
                let given : v.crossed (q - place_count shape) ≡ true =
                crossed_there (q - place_count shape) (b.behind.passed_links (q - place_count shape) crossing (omega (arith, rank_least u.floor))) in
                let before = keeps.links (q - place_count shape) (crossed_due shape b.is memory v b.before (q - place_count shape) (omega arith) given) given (omega arith) in
                absurd (cycle_of_flips shape b.is (q - place_count shape - 1) (ap (λ n. cycle_of shape n) (omega arith) ∙ sym cycle ∙ before))
          ]
        ]

    pub crosses_before : (q : ℕ) → gives_crossing shape u.floor q a x ≡ true → gives_crossing shape v.floor q a x ≡ true
    crosses_before q gives_now =
        search (rules, gives_crossing_is, u.floor, v.floor, link_near, gives_crossing, gives_crossing_from, crossing_due_from)

    -- ---- so the write gives the same

    same_or : (f g : Bool) (given_v given_u : Bool) → given_u ≡ given_v → (given_v ≡ false → f ≡ true → g ≡ true) → (g ≡ true → f ≡ true) → (given_v || f) ≡ (given_u || g)
    same_or f g true given_u same there back = sym (ap (λ y. y || g) same)
    same_or f g false given_u same there back = both_ways f g (there refl) back ∙ sym (ap (λ y. y || g) same)

    pub given_same : (p : ℕ) → (v.given p || gives shape v.floor p a x) ≡ (u.given p || gives shape u.floor p a x)
    given_same p = same_or (gives shape v.floor p a x) (gives shape u.floor p a x) (v.given p) (u.given p) (ap (λ f. f p) b.same.given) (gives_behind p) (gives_before p)

    pub crossed_same : (q : ℕ) → (v.crossed q || gives_crossing shape v.floor q a x) ≡ (u.crossed q || gives_crossing shape u.floor q a x)
    crossed_same q = same_or (gives_crossing shape v.floor q a x) (gives_crossing shape u.floor q a x) (v.crossed q) (u.crossed q) (ap (λ f. f q) b.same.crossed) (crosses_behind q) (crosses_before q)
