-- Which words are the control word of a Link under lease that stands beside a free position
use Rattle.ring_knowledge.proofs.UpperLaws.{◌≡◌, ◌+◌, ◌*◌, ◌<◌, ◌≤◌, ◌∙◌, ◌==◌, ◌&&◌, ℕ, Bool, true, false, Some, ap, sym, arith, max, get_or, list_any, range_with_len, and_parts, eq-eqb, eqb-true, AtLink, Shape, place_count, link_crossed, is_crossing, link_address, place_at, place_at-Link, RingView, floor_number, due_crossings, leased_crossings, link_of, crossed_link, crossing_positive, is_crossing-from, link_address_is, RingRecord, is_noted, FollowsMarks, least_crossing, noted_due, noted_within, false_unless, any_filtered, any_none, any_only, link_of-crossed, due_crossing, same_due_crossing, link_is}
use Rattle.ring_knowledge.proofs.MiddleLaws.{place_at-link_address, number, ◌-◌, ◌||◌}
use Rattle.ring_knowledge.specs.BesideFree.{is_beside_free, is_unrestored, stands_beside_free}

module _ (shape : Shape) (v : RingView) (r : RingRecord) (follows : FollowsMarks shape v r) (a : ℕ) where
  abbrev stands : ℕ → Bool
  stands q = (is_crossing shape q && v.crossed q) && (a == link_address shape q + 12 && is_beside_free v q)

  stands_are : stands_beside_free shape v a ≡ list_any stands (range_with_len (floor_number v) (place_count shape + 1))
  unfolding stands_beside_free leased_crossings due_crossings
  stands_are = any_filtered (λ q. a == link_address shape q + 12 && is_beside_free v q) (λ q. is_crossing shape q && v.crossed q) (range_with_len (floor_number v) (place_count shape + 1))

  -- such a word is the control word of the crossing's Link
  word_at : (q j : ℕ) → link_crossed shape q ≡ Some j → stands q ≡ true → place_at shape a ≡ Some (AtLink j 3)
  word_at q j over h =
      let parts = and_parts (is_crossing shape q && v.crossed q) (a == link_address shape q + 12 && is_beside_free v q) h in
      let at : a ≡ link_address shape q + 4 * 3 = eqb-true a (link_address shape q + 12) (and_parts (a == link_address shape q + 12) (is_beside_free v q) parts.1).0 in
      ap (λ x. place_at shape x) at ∙ place_at-link_address shape follows.allowed q j 3 over (omega arith)

  crosses_at : (q : ℕ) → stands q ≡ true → (j : ℕ) × (link_crossed shape q ≡ Some j)
  crosses_at q h =
      crossed_link shape q (and_parts (is_crossing shape q) (v.crossed q) (and_parts (is_crossing shape q && v.crossed q) (a == link_address shape q + 12 && is_beside_free v q) h).0).0

  -- no other word is
  pub none_beside : ((j : ℕ) → place_at shape a ≡ Some (AtLink j 3) → ⊥) → false ≡ stands_beside_free shape v a
  none_beside never =
      sym (stands_are ∙ any_none stands (floor_number v) (place_count shape + 1) (λ q low high. false_unless (stands q) (λ h. let found = crosses_at q h in never found.0 (word_at q found.0 found.1 h))))

  -- at the control word of a Link it is as the crossing says that is due there
  pub beside_at : (j q : ℕ) → place_at shape a ≡ Some (AtLink j 3) → max (floor_number v) 1 ≤ q → q < max (floor_number v) 1 + place_count shape → link_crossed shape q ≡ Some j →
      (get_or r.crossed.items j false && is_beside_free v q) ≡ stands_beside_free shape v a
  beside_at j q at low high over =
      let where_ = place_at-Link shape follows.allowed a j 3 at in
      let crossing : is_crossing shape q ≡ true = is_crossing-from shape q j over in
      let here : (a == link_address shape q + 12) ≡ true = eq-eqb a (link_address shape q + 12) (omega (arith, where_.2, link_address_is shape q j over)) in
      let crossed : v.crossed q ≡ get_or r.crossed.items j false =
      follows.crossed q ∙ ap (λ b. b && is_noted (least_crossing v) (place_count shape) r.crossed.items (link_of shape q) q) crossing
      ∙ noted_due (least_crossing v) (place_count shape) r.crossed.items (link_of shape q) q low high ∙ ap (λ n. get_or r.crossed.items n false) (link_of-crossed shape q j over) in
      sym (stands_are
      ∙ any_only stands (floor_number v) (place_count shape + 1) q (omega (arith, low)) (omega (arith, high)) (λ n from to other. false_unless (stands n) (λ h. other (same_there n from h)))
      ∙ ap (λ b. (b && v.crossed q) && (a == link_address shape q + 12 && is_beside_free v q)) crossing
      ∙ ap (λ b. (true && v.crossed q) && (b && is_beside_free v q)) here
      ∙ ap (λ b. b && is_beside_free v q) crossed)
    where
      same_there : (n : ℕ) → floor_number v ≤ n → stands n ≡ true → n ≡ q
      same_there n from h =
          let both = and_parts (is_crossing shape n) (v.crossed n) (and_parts (is_crossing shape n && v.crossed n) (a == link_address shape n + 12 && is_beside_free v n) h).0 in
          let noted = (and_parts (is_crossing shape n) (is_noted (least_crossing v) (place_count shape) r.crossed.items (link_of shape n) n) (sym (follows.crossed n) ∙ both.1)).1 in
          let within = noted_within (least_crossing v) (place_count shape) r.crossed.items (link_of shape n) n noted in
          let positive = crossing_positive shape n both.0 in
          let there = crosses_at n h in
          let segment : there.0 ≡ j = (link_is there.0 3 j 3 (sym (word_at n there.0 there.1 h) ∙ at)).0 in
          same_due_crossing shape follows.allowed (least_crossing v) j n q (omega arith) within low high (there.1 ∙ ap (λ i. Some i) segment) over

  -- a Link that isn't under lease
  pub unmarked_beside : (j : ℕ) → place_at shape a ≡ Some (AtLink j 3) → get_or r.crossed.items j false ≡ false → false ≡ stands_beside_free shape v a
  unmarked_beside j at clear =
      let due = due_crossing shape follows.allowed (floor_number v) j (place_at-Link shape follows.allowed a j 3 at).0 in
      sym (ap (λ b. b && is_beside_free v due.0) clear) ∙ beside_at j due.0 at due.1 due.2 due.3

  -- one that is, on the way to q
  pub marked_beside : (j q : ℕ) → place_at shape a ≡ Some (AtLink j 3) → get_or r.crossed.items j false ≡ true → max (number r.floor) 1 ≤ q → q < max (number r.floor) 1 + place_count shape →
      link_crossed shape q ≡ Some j → (is_unrestored v (q - 1) || is_unrestored v q) ≡ stands_beside_free shape v a
  marked_beside j q at marked low high over =
      let floor = ap number follows.floor in
      sym (ap (λ b. b && is_beside_free v q) marked) ∙ beside_at j q at (omega (arith, floor, low)) (omega (arith, floor, high)) over
