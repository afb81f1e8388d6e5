-- The first spot from another one on at an address, by the place of the address
use Rattle.ring_knowledge.proofs.Words.{◌≡◌, ◌≢◌, ◌+◌, ◌%◌, ◌<◌, ◌≤◌, ◌∙◌, ℕ, Some, None, ap, sym, arith, inl, inr, slice_index, cases_lt, AtData, AtLink, Spot, Data, Link, Shape, IsShape, place_count, place_of, address_of, links, link_crossed, link_address, place_at, IsSpot, number, rank, spot_address, link_aligned, address_aligned, same_position, place_at-Link, place_at-None, place_at-None_link, crosses, crossed_link, crossing_positive, is_crossing-from, link_address_is, same_crossing_at, rank_least, rank_most, data_not_link, IsFirstAt, rules}
use Rattle.ring_knowledge.proofs.DueNumbers.{word_there}

module _ (shape : Shape) (is : IsShape shape) (address : ℕ) where
  -- no spot lies off the boundaries of blocks
  pub nowhere_off : address % 16 ≢ 0 → (t : Spot) → IsSpot shape t → spot_address shape t ≢ address
  nowhere_off off (Data p) spot at = off (ap (λ a. a % 16) (sym at) ∙ address_aligned shape is p)
  nowhere_off off (Link q) spot at =
      let over = crossed_link shape q spot in
      off (ap (λ a. a % 16) (sym at ∙ link_address_is shape q over.0 over.1) ∙ link_aligned shape is over.0 (crosses shape q over.0 over.1).link)

  -- nor at an address of none of the ring's words
  pub nowhere_else : place_at shape address ≡ None → (t : Spot) → IsSpot shape t → spot_address shape t ≢ address
  nowhere_else none (Data p) spot at =
      let same : address ≡ address_of shape p = sym at in
      place_at-None shape is address p 0 none (omega arith) (omega arith)
  nowhere_else none (Link q) spot at =
      let over = crossed_link shape q spot in
      let same : address ≡ slice_index (links shape) over.0 = sym at ∙ link_address_is shape q over.0 over.1 in
      place_at-None_link shape is address over.0 0 none (crosses shape q over.0 over.1).link (omega arith) (omega arith)

  module _ (from : Spot) (boundary : address % 16 ≡ 0) where
    -- the position that is due at the place of an address
    pub first_position : (place word p : ℕ) → place_at shape address ≡ Some (AtData place word) → number from ≤ p → p < number from + place_count shape →
        place_of shape p ≡ place → IsFirstAt shape from address (Data p)
    first_position place word p found low near rest =
        let here = word_there shape is address place word p found rest in
        let at : address_of shape p ≡ address = omega (arith, address_aligned shape is p) in
        grind (arith, rank_most, data_not_link, cases_lt, same_position, rank_least)

    -- no spot at the address of a Link comes before its next crossing
    least_crossing_at : (passed q : ℕ) → ((r : ℕ) → 0 < r → rank from ≤ rank (Link r) → passed < r) → q ≤ passed + place_count shape → IsSpot shape (Link q) →
        link_address shape q ≡ address → (u : Spot) → IsSpot shape u → rank from ≤ rank u → spot_address shape u ≡ address → rank (Link q) ≤ rank u
    least_crossing_at passed q behind near crossing at (Data p) spot later same = absurd (data_not_link shape is p q crossing (same ∙ sym at))
    least_crossing_at passed q behind near crossing at (Link r) spot later same = elim (cases_lt r q) [
      | inl before ↦
          let low : passed < r = behind r (crossing_positive shape r spot) later in
          absurd (omega (arith, same_crossing_at shape is r q (omega arith) (omega arith) spot crossing (same ∙ sym at)))
      | inr after ↦ omega arith
    ]

    -- the first crossing of the Link at an address
    pub first_crossing_at : (segment word passed q : ℕ) → place_at shape address ≡ Some (AtLink segment word) →
        ((r : ℕ) → 0 < r → rank from ≤ rank (Link r) → passed < r) → ((r : ℕ) → passed < r → rank from ≤ rank (Link r)) →
        passed < q → q ≤ passed + place_count shape → link_crossed shape q ≡ Some segment → IsFirstAt shape from address (Link q)
    first_crossing_at segment word passed q found behind ahead low near over =
        let here = place_at-Link shape is address segment word found in
        let at : link_address shape q ≡ address = link_address_is shape q segment over ∙ omega (arith, link_aligned shape is segment here.0, here.1, here.2) in
        search (rules, is_crossing-from, least_crossing_at)
