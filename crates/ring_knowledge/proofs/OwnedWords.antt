-- Which words of a ring its controller may own, by the place of the address
use Rattle.ring_knowledge.proofs.UpperLaws.{none-some, ◌≡◌, ◌+◌, ◌/◌, ◌%◌, ◌<◌, ◌≤◌, ◌∙◌, ◌&&◌, ◌||◌, ℕ, Bool, true, false, Some, None, ap, sym, arith, length, slice_index, get_or, nat_lt, lt-ltb, ltb-true, list_any, range_with_len, and_parts, and_from, AtData, AtLink, Shape, place_count, place_of, address_of, links, link_crossed, is_crossing, link_address, overlap, place_at, RingView, floor_number, due_positions, due_crossings, leased_positions, leased_crossings, is_handed_over, contains, nat_cmp, not, link_of, place_below, address_aligned, link_aligned, crosses, crossed_link, crossing_positive, is_crossing-from, link_address_is, place_at-data, place_at-link, place_at-Data, place_at-Link, RingRecord, is_noted, FollowsMarks, least_crossing, rules, noted_due, noted_within, false_unless, any_filtered, any_none, any_only, or_false, IsDue, link_of-crossed, due_number, same_due, word_there, due_crossing, same_due_crossing, data_is, data_no_link, link_is}

-- a word and a block with a byte in common: the word is one of the block's
word_inside : (a b : ℕ) → a % 4 ≡ 0 → b % 16 ≡ 0 → a < b + 16 → b < a + 4 → b ≤ a
word_inside a b word block near far = omega arith

and_true : (b : Bool) → (b && true) ≡ b
and_true b = grind arith

module _ (shape : Shape) (v : RingView) (r : RingRecord) (follows : FollowsMarks shape v r) (a : ℕ) (word : a % 4 ≡ 0) where
  -- a word with a byte of a position's block is a word of its place
  of_place : (p : ℕ) → overlap a 4 (address_of shape p) 16 ≡ true → place_at shape a ≡ Some (AtData (place_of shape p) (a % 16 / 4))
  of_place p h =
      let bytes = and_parts (nat_lt a (address_of shape p + 16)) (nat_lt (address_of shape p) (a + 4)) h in
      let near = ltb-true a (address_of shape p + 16) bytes.0 in
      let far = ltb-true (address_of shape p) (a + 4) bytes.1 in
      let low : address_of shape p ≤ a = word_inside a (address_of shape p) word (address_aligned shape follows.allowed p) near far in
      let below = place_below shape follows.allowed p in
      search (rules, place_at-data)

  -- one with a byte of a crossed Link is a word of the Link
  of_link : (q j : ℕ) → link_crossed shape q ≡ Some j → overlap a 4 (link_address shape q) 16 ≡ true → place_at shape a ≡ Some (AtLink j (a % 16 / 4))
  of_link q j over h =
      let bytes = and_parts (nat_lt a (link_address shape q + 16)) (nat_lt (link_address shape q) (a + 4)) h in
      let near = ltb-true a (link_address shape q + 16) bytes.0 in
      let far = ltb-true (link_address shape q) (a + 4) bytes.1 in
      let inside : j < length (links shape) = (crosses shape q j over).link in
      let at = link_address_is shape q j over in
      let aligned = link_aligned shape follows.allowed j inside in
      grind (arith, slice_index, word_inside, place_at-link)

  positions_are : list_any (λ p. overlap a 4 (address_of shape p) 16) (leased_positions shape v)
      ≡ list_any (λ p. is_handed_over v p && overlap a 4 (address_of shape p) 16) (range_with_len (floor_number v) (place_count shape))
  unfolding leased_positions due_positions
  positions_are = any_filtered (λ p. overlap a 4 (address_of shape p) 16) (is_handed_over v) (range_with_len (floor_number v) (place_count shape))

  crossings_are : list_any (λ q. overlap a 4 (link_address shape q) 16) (leased_crossings shape v)
      ≡ list_any (λ q. (is_crossing shape q && v.crossed q) && overlap a 4 (link_address shape q) 16) (range_with_len (floor_number v) (place_count shape + 1))
  unfolding leased_crossings due_crossings
  crossings_are = any_filtered (λ q. overlap a 4 (link_address shape q) 16) (λ q. is_crossing shape q && v.crossed q) (range_with_len (floor_number v) (place_count shape + 1))

  no_positions : ((j w : ℕ) → place_at shape a ≡ Some (AtData j w) → ⊥) → list_any (λ p. overlap a 4 (address_of shape p) 16) (leased_positions shape v) ≡ false
  no_positions never = search (rules, positions_are, any_none, false_unless, of_place, and_parts)

  no_crossings : ((j w : ℕ) → place_at shape a ≡ Some (AtLink j w) → ⊥) → list_any (λ q. overlap a 4 (link_address shape q) 16) (leased_crossings shape v) ≡ false
  no_crossings never =
      crossings_are
      ∙ any_none (λ q. (is_crossing shape q && v.crossed q) && overlap a 4 (link_address shape q) 16) (floor_number v) (place_count shape + 1)
      (λ q low high. false_unless ((is_crossing shape q && v.crossed q) && overlap a 4 (link_address shape q) 16)
      (λ h.
      let parts = and_parts (is_crossing shape q && v.crossed q) (overlap a 4 (link_address shape q) 16) h in
      let found = crossed_link shape q (and_parts (is_crossing shape q) (v.crossed q) parts.0).0 in
      never found.0 (a % 16 / 4) (of_link q found.0 found.1 parts.1)))

  -- the words of a data place are its due position's
  owned_due : (i w p : ℕ) → place_at shape a ≡ Some (AtData i w) → IsDue shape (floor_number v) i p → is_handed_over v p
      ≡ (list_any (λ p. overlap a 4 (address_of shape p) 16) (leased_positions shape v) || list_any (λ q. overlap a 4 (link_address shape q) 16) (leased_crossings shape v))
  owned_due i w p at due =
      let where_ = word_there shape follows.allowed a i w p at due.place_is in
      let here : overlap a 4 (address_of shape p) 16 ≡ true =
      and_from (nat_lt a (address_of shape p + 16)) (nat_lt (address_of shape p) (a + 4)) (lt-ltb a (address_of shape p + 16) (omega arith)) (lt-ltb (address_of shape p) (a + 4) (omega arith)) in
      let only : list_any (λ n. overlap a 4 (address_of shape n) 16) (leased_positions shape v) ≡ is_handed_over v p =
      positions_are
      ∙ any_only (λ n. is_handed_over v n && overlap a 4 (address_of shape n) 16) (floor_number v) (place_count shape) p due.from due.within
      (λ n low high other. false_unless (is_handed_over v n && overlap a 4 (address_of shape n) 16)
      (λ h. other (same_due shape follows.allowed (floor_number v) n p low high due.from due.within
      ((data_is (place_of shape n) (a % 16 / 4) i w (sym (of_place n (and_parts (is_handed_over v n) (overlap a 4 (address_of shape n) 16) h).1) ∙ at)).0 ∙ sym due.place_is))))
      ∙ ap (λ b. is_handed_over v p && b) here ∙ and_true (is_handed_over v p) in
      sym (ap (λ b. b || list_any (λ q. overlap a 4 (link_address shape q) 16) (leased_crossings shape v)) only
      ∙ ap (λ b. is_handed_over v p || b) (no_crossings (λ j u e. data_no_link i w j u (sym at ∙ e))) ∙ or_false (is_handed_over v p))

  -- it is given as its place's mark says
  given_here : (i p : ℕ) → IsDue shape (floor_number v) i p → v.given p ≡ get_or r.given.items i false
  given_here i p due = grind (arith, noted_due)

  -- where its mark is set, they are owned unless it is free
  pub owned_data : (i w : ℕ) (kept : Bool) → place_at shape a ≡ Some (AtData i w) → get_or r.given.items i false ≡ true →
      ((p : ℕ) → IsDue shape (floor_number v) i p → kept ≡ not (contains nat_cmp r.free p)) → kept
      ≡ (list_any (λ p. overlap a 4 (address_of shape p) 16) (leased_positions shape v) || list_any (λ q. overlap a 4 (link_address shape q) 16) (leased_crossings shape v))
  owned_data i w kept at marked is =
      let found = due_number shape follows.allowed (floor_number v) i (place_at-Data shape follows.allowed a i w at).0 in
      is found.0 found.1 ∙ sym (ap (λ b. b && not (v.free found.0)) (given_here i found.0 found.1 ∙ marked) ∙ ap not (follows.free found.0)) ∙ owned_due i w found.0 at found.1

  -- else they aren't
  pub unowned_data : (i w : ℕ) → place_at shape a ≡ Some (AtData i w) → get_or r.given.items i false ≡ false → false
      ≡ (list_any (λ p. overlap a 4 (address_of shape p) 16) (leased_positions shape v) || list_any (λ q. overlap a 4 (link_address shape q) 16) (leased_crossings shape v))
  unowned_data i w at clear =
      let found = due_number shape follows.allowed (floor_number v) i (place_at-Data shape follows.allowed a i w at).0 in
      sym (ap (λ b. b && not (v.free found.0)) (given_here i found.0 found.1 ∙ clear)) ∙ owned_due i w found.0 at found.1

  -- at a word of a Link: its mark
  pub owned_link : (j w : ℕ) → place_at shape a ≡ Some (AtLink j w) → get_or r.crossed.items j false
      ≡ (list_any (λ p. overlap a 4 (address_of shape p) 16) (leased_positions shape v) || list_any (λ q. overlap a 4 (link_address shape q) 16) (leased_crossings shape v))
  owned_link j w at =
      let where_ = place_at-Link shape follows.allowed a j w at in
      let found = due_crossing shape follows.allowed (floor_number v) j where_.0 in
      let q : ℕ = found.0 in
      let over : link_crossed shape q ≡ Some j = found.3 in
      let address = link_address_is shape q j over in
      let crossing : is_crossing shape q ≡ true = is_crossing-from shape q j over in
      let here : overlap a 4 (link_address shape q) 16 ≡ true =
      and_from (nat_lt a (link_address shape q + 16)) (nat_lt (link_address shape q) (a + 4)) (lt-ltb a (link_address shape q + 16) (omega (arith, where_.1, where_.2))) (lt-ltb (link_address shape q) (a + 4) (omega (arith, where_.2))) in
      let crossed : v.crossed q ≡ get_or r.crossed.items j false =
      follows.crossed q ∙ ap (λ b. b && is_noted (least_crossing v) (place_count shape) r.crossed.items (link_of shape q) q) crossing
      ∙ noted_due (least_crossing v) (place_count shape) r.crossed.items (link_of shape q) q found.1 found.2 ∙ ap (λ n. get_or r.crossed.items n false) (link_of-crossed shape q j over) in
      let only : list_any (λ n. overlap a 4 (link_address shape n) 16) (leased_crossings shape v) ≡ get_or r.crossed.items j false =
      crossings_are
      ∙ any_only (λ n. (is_crossing shape n && v.crossed n) && overlap a 4 (link_address shape n) 16) (floor_number v) (place_count shape + 1) q (omega (arith, found.1)) (omega (arith, found.2))
      (λ n low high other. false_unless ((is_crossing shape n && v.crossed n) && overlap a 4 (link_address shape n) 16) (λ h. other (same_there n q low found.1 found.2 over h)))
      ∙ ap (λ b. (is_crossing shape q && v.crossed q) && b) here ∙ ap (λ b. (b && v.crossed q) && true) crossing ∙ and_true (v.crossed q) ∙ crossed in
      let none = no_positions (λ i u e. data_no_link i u j w (sym e ∙ at)) in
      sym (ap (λ b. b || list_any (λ n. overlap a 4 (link_address shape n) 16) (leased_crossings shape v)) none ∙ only)
    where
      same_there : (n q : ℕ) → floor_number v ≤ n → least_crossing v ≤ q → q < least_crossing v + place_count shape → link_crossed shape q ≡ Some j →
          ((is_crossing shape n && v.crossed n) && overlap a 4 (link_address shape n) 16) ≡ true → n ≡ q
      same_there n q low low' high' over h =
          let parts = and_parts (is_crossing shape n && v.crossed n) (overlap a 4 (link_address shape n) 16) h in
          let both = and_parts (is_crossing shape n) (v.crossed n) parts.0 in
          let noted = (and_parts (is_crossing shape n) (is_noted (least_crossing v) (place_count shape) r.crossed.items (link_of shape n) n) (sym (follows.crossed n) ∙ both.1)).1 in
          let high = noted_within (least_crossing v) (place_count shape) r.crossed.items (link_of shape n) n noted in
          let positive = crossing_positive shape n both.0 in
          let there = crossed_link shape n both.0 in
          let segment : there.0 ≡ j = (link_is there.0 (a % 16 / 4) j w (sym (of_link n there.0 there.1 parts.1) ∙ at)).0 in
          same_due_crossing shape follows.allowed (least_crossing v) j n q (omega arith) high low' high' (there.1 ∙ ap (λ i. Some i) segment) over

  -- elsewhere
  pub owned_nowhere : place_at shape a ≡ None → false
      ≡ (list_any (λ p. overlap a 4 (address_of shape p) 16) (leased_positions shape v) || list_any (λ q. overlap a 4 (link_address shape q) 16) (leased_crossings shape v))
  owned_nowhere at = grind (arith, no_positions, none-some, no_crossings)
