-- What a write would give of a ring, by the place of its address: xHCI 4.9.2
use Rattle.ring_knowledge.proofs.MiddleLaws.{none-some, ◌≡◌, ◌≢◌, ◌+◌, ◌-◌, ◌*◌, ◌%◌, ◌<◌, ◌≤◌, ◌∙◌, ◌==◌, ◌&&◌, ◌||◌, ℕ, Bool, true, false, Some, None, refl, ap, sym, arith, inl, inr, max, nat_lt, nat_le, lt-ltb, le-ltb, le-leb, eq-eqb, ne_eqb, eqb-true, ltb-true, leb-true, cases_lt, cases_eq, and_parts, or_cases, and_from, Place, AtData, AtLink, Spot, Shape, IsShape, place_count, place_of, address_of, cycle_of, link_crossed, is_crossing, link_address, place_at, number, is_due, is_crossing_due, gives, gives_crossing, place_at-Link, place_at-address_of, place_at-link_address, crossed_link, crossing_positive, is_crossing-from, link_address_is, is_the, rules, false_unless, same_due, same_due_crossing, word_there}

pub data_is : (i v j w : ℕ) → Some (AtData i v) ≡ Some (AtData j w) → (i ≡ j) × (v ≡ w)
data_is i v j w e = (cc, cc)

pub link_is : (i v j w : ℕ) → Some (AtLink i v) ≡ Some (AtLink j w) → (i ≡ j) × (v ≡ w)
link_is i v j w e = (cc, cc)

pub data_no_link : (i v j w : ℕ) → Some (AtData i v) ≡ Some (AtLink j w) → ⊥
data_no_link i v j w e = cc

-- what was found at an address
pub found : (shape : Shape) (n a : ℕ) (p q : Place) → n ≡ a → Some p ≡ place_at shape n → p ≡ q → place_at shape a ≡ Some q
found shape n a p q e f g = ap (λ m. place_at shape m) (sym e) ∙ sym f ∙ ap (λ x. Some x) g

module _ (shape : Shape) (allowed : IsShape shape) (floor : Spot) where
  -- a position that is given
  pub record Gives (p a w : ℕ) : Type 0 where
    pub from : number floor ≤ p
    pub within : p < number floor + place_count shape
    pub word_at : place_at shape a ≡ Some (AtData (place_of shape p) 3)
    pub cycle_is : w % 2 ≡ cycle_of shape p

  pub gives-true : (p a w : ℕ) → gives shape floor p a w ≡ true → Gives p a w
  gives-true p a w h =
      let parts = and_parts (is_due shape floor p && (a == address_of shape p + 12)) (w % 2 == cycle_of shape p) h in
      let front = and_parts (is_due shape floor p) (a == address_of shape p + 12) parts.0 in
      let due = and_parts (nat_le (number floor) p) (nat_lt p (number floor + place_count shape)) front.0 in
      let at : a ≡ address_of shape p + 4 * 3 = eqb-true a (address_of shape p + 12) front.1 in
      record {
        from = leb-true (number floor) p due.0;
        within = ltb-true p (number floor + place_count shape) due.1;
        word_at = ap (λ x. place_at shape x) at ∙ place_at-address_of shape allowed p 3 (omega arith);
        cycle_is = eqb-true (w % 2) (cycle_of shape p) parts.1;
      }

  -- a crossing that is given, over the Link of segment j
  pub record GivesCrossing (q j a w : ℕ) : Type 0 where
    pub from : max (number floor) 1 ≤ q
    pub within : q < max (number floor) 1 + place_count shape
    pub over : link_crossed shape q ≡ Some j
    pub word_at : place_at shape a ≡ Some (AtLink j 3)
    pub cycle_is : w % 2 ≡ cycle_of shape (q - 1)

  pub gives_crossing-true : (q a w : ℕ) → gives_crossing shape floor q a w ≡ true → (j : ℕ) × GivesCrossing q j a w
  gives_crossing-true q a w h =
      let parts = and_parts (is_crossing_due shape floor q && (a == link_address shape q + 12)) (w % 2 == cycle_of shape (q - 1)) h in
      let front = and_parts (is_crossing_due shape floor q) (a == link_address shape q + 12) parts.0 in
      let late : Bool = nat_lt q (number floor + place_count shape) || (q == place_count shape && number floor == 0) in
      let due = and_parts (is_crossing shape q && nat_le (number floor) q) late front.0 in
      let crossing = and_parts (is_crossing shape q) (nat_le (number floor) q) due.0 in
      let found = crossed_link shape q crossing.0 in
      let j : ℕ = found.0 in
      let at : a ≡ link_address shape q + 4 * 3 = eqb-true a (link_address shape q + 12) front.1 in
      let positive : 0 < q = crossing_positive shape q crossing.0 in
      let low : number floor ≤ q = leb-true (number floor) q crossing.1 in (
        j,
        record {
          from = omega arith;
          within = ends_within due.1;
          over = found.1;
          word_at = ap (λ x. place_at shape x) at ∙ place_at-link_address shape allowed q j 3 found.1 (omega arith);
          cycle_is = eqb-true (w % 2) (cycle_of shape (q - 1)) parts.1;
        },
      )
    where
      ends_within : (nat_lt q (number floor + place_count shape) || (q == place_count shape && number floor == 0)) ≡ true → q < max (number floor) 1 + place_count shape
      ends_within h = search (rules, or_cases, nat_lt, number, place_count, ltb-true, eqb-true, and_parts)

  -- ---- by the place of the address

  -- a word of a data place: its due position, with its cycle, by the control word
  module _ (a w i v : ℕ) (at : place_at shape a ≡ Some (AtData i v)) where
    pub gives-data : (q : ℕ) → v ≡ 3 → number floor ≤ q → q < number floor + place_count shape → place_of shape q ≡ i → w % 2 ≡ cycle_of shape q →
        (p : ℕ) → gives shape floor p a w ≡ is_the (Some q) p
    gives-data q third low high here cycle p = elim (cases_eq p q) [
      | inl same ↦ let word_is = word_there shape allowed a i v q at here in grind (arith, eq-eqb, nat_le, le-leb, nat_lt, lt-ltb, and_from)
      | inr other ↦
          false_unless (gives shape floor p a w) (λ h.
          let g : Gives p a w = gives-true p a w h in
          let place_is = data_is i v (place_of shape p) 3 (sym at ∙ g.word_at) in
          other (same_due shape allowed (number floor) p q g.from g.within low high (sym place_is.0 ∙ sym here)))
          ∙ sym (ne_eqb p q other)
    ]

    -- another word than the control word gives nothing
    pub gives-other_word : v ≢ 3 → (p : ℕ) → gives shape floor p a w ≡ false
    gives-other_word other p = grind (arith, false_unless, gives-true, data_is)

    -- nor does the control word with the other cycle
    pub gives-other_cycle : (q : ℕ) → number floor ≤ q → q < number floor + place_count shape → place_of shape q ≡ i → w % 2 ≢ cycle_of shape q →
        (p : ℕ) → gives shape floor p a w ≡ false
    gives-other_cycle q low high here other p = search (rules, false_unless, gives-true, data_is, same_due)

    pub no_crossing_of_data : (q : ℕ) → gives_crossing shape floor q a w ≡ false
    no_crossing_of_data q = search (rules, false_unless, found, gives_crossing-true, data_no_link)

  -- a word of the Link of segment j
  module _ (a w j v : ℕ) (at : place_at shape a ≡ Some (AtLink j v)) where
    same_here : (q r : ℕ) → max (number floor) 1 ≤ q → q < max (number floor) 1 + place_count shape → link_crossed shape q ≡ Some j → (g : (i : ℕ) × GivesCrossing r i a w) → r ≡ q
    same_here q r low high over h6 = grind (arith, found, link_is, same_due_crossing)

    pub gives_crossing-link : (q : ℕ) → v ≡ 3 → max (number floor) 1 ≤ q → q < max (number floor) 1 + place_count shape → link_crossed shape q ≡ Some j →
        w % 2 ≡ cycle_of shape (q - 1) → (r : ℕ) → gives_crossing shape floor r a w ≡ is_the (Some q) r
    gives_crossing-link q third low high over cycle r = elim (cases_eq r q) [
      | inl same ↦
          let word_is : a ≡ link_address shape q + 12 = omega (arith, (place_at-Link shape allowed a j v at).2, link_address_is shape q j over) in
          let there : (a == link_address shape q + 12) ≡ true = eq-eqb a (link_address shape q + 12) word_is in
          let bit : (w % 2 == cycle_of shape (q - 1)) ≡ true = eq-eqb (w % 2) (cycle_of shape (q - 1)) cycle in
          let least : nat_le (number floor) q ≡ true = le-leb (number floor) q (omega arith) in
          let due : is_crossing_due shape floor q ≡ true = and_from (is_crossing shape q && nat_le (number floor) q) _ (and_from (is_crossing shape q) (nat_le (number floor) q) (is_crossing-from shape q j over) least) late in
          ap (λ n. gives_crossing shape floor n a w) same
          ∙ and_from (is_crossing_due shape floor q && (a == link_address shape q + 12)) (w % 2 == cycle_of shape (q - 1)) (and_from (is_crossing_due shape floor q) (a == link_address shape q + 12) due there) bit
          ∙ sym (eq-eqb r q same)
      | inr other ↦ false_unless (gives_crossing shape floor r a w) (λ h. other (same_here q r low high over (gives_crossing-true r a w h))) ∙ sym (ne_eqb r q other)
    ]
      where
        late : (nat_lt q (number floor + place_count shape) || (q == place_count shape && number floor == 0)) ≡ true
        late = elim (cases_lt q (number floor + place_count shape)) [
          | inl below ↦ rw (lt-ltb q (number floor + place_count shape) below) refl
          | inr last ↦
              let end : q ≡ place_count shape = omega arith in
              let start : number floor ≡ 0 = omega arith in
              rw (le-ltb q (number floor + place_count shape) last) (and_from (q == place_count shape) (number floor == 0) (eq-eqb q (place_count shape) end) (eq-eqb (number floor) 0 start))
        ]

    pub gives_crossing-other_word : v ≢ 3 → (q : ℕ) → gives_crossing shape floor q a w ≡ false
    gives_crossing-other_word other q = search (rules, false_unless, found, gives_crossing-true, link_is)

    pub gives_crossing-other_cycle : (q : ℕ) → max (number floor) 1 ≤ q → q < max (number floor) 1 + place_count shape → link_crossed shape q ≡ Some j →
        w % 2 ≢ cycle_of shape (q - 1) → (r : ℕ) → gives_crossing shape floor r a w ≡ false
    gives_crossing-other_cycle q low high over other r =
        false_unless (gives_crossing shape floor r a w) (λ h.
        let found = gives_crossing-true r a w h in
        let i : ℕ = found.0 in
        let g : GivesCrossing r i a w = found.1 in
        let same : r ≡ q = same_here q r low high over found in
        other (g.cycle_is ∙ ap (λ n. cycle_of shape (n - 1)) same))

    pub no_position_of_link : (p : ℕ) → gives shape floor p a w ≡ false
    no_position_of_link p = grind (arith, false_unless, gives-true, data_no_link)

  -- an address of no word of the ring
  module _ (a w : ℕ) (at : place_at shape a ≡ None) where
    pub no_position_elsewhere : (p : ℕ) → gives shape floor p a w ≡ false
    no_position_elsewhere p = grind (arith, false_unless, gives-true, none-some)

    pub no_crossing_elsewhere : (q : ℕ) → gives_crossing shape floor q a w ≡ false
    no_crossing_elsewhere q = search (rules, false_unless, found, gives_crossing-true, none-some)
