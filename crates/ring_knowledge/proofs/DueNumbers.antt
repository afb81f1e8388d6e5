-- The position that is due at a place, and the crossing that is due at a Link
use Rattle.ring_knowledge.proofs.Words.{◌≡◌, ◌+◌, ◌-◌, ◌*◌, ◌<◌, ◌≤◌, ◌∙◌, ℕ, refl, ap, sym, arith, inl, inr, length, slice_index, Some, max, cases_lt, Shape, IsShape, place_count, place_of, place_below, place_of-ahead, place_of-ahead_lap, AtData, address_of, data_places, place_at, place_at-Data, links, ends, link_crossed, link_of, same_in_lap_of, crosses-from, end_in_lap, same_crossing, rules}

-- the position from a number on, of a lap, that lies at a place
pub record IsDue (shape : Shape) (least place p : ℕ) : Type 0 where
  pub from : least ≤ p
  pub within : p < least + place_count shape
  pub place_is : place_of shape p ≡ place

-- the Link on the way to a position
pub link_of-crossed : (shape : Shape) (q j : ℕ) → link_crossed shape q ≡ Some j → link_of shape q ≡ j
unfolding link_of
link_of-crossed shape q j over = rw over refl

module _ (shape : Shape) (allowed : IsShape shape) where
  pub due_number : (least place : ℕ) → place < place_count shape → (p : ℕ) × IsDue shape least place p
  due_number least place below =
      let reached = place_below shape allowed least in
      elim (cases_lt place (place_of shape least)) [
        | inl passed ↦
            (least + (place + (place_count shape - place_of shape least)), record { from = omega arith; within = omega arith; place_is = place_of-ahead_lap shape allowed least place below passed })
        | inr ahead ↦ (least + (place - place_of shape least), record { from = omega arith; within = omega arith; place_is = place_of-ahead shape least place below ahead })
      ]

  -- there is one such position
  pub same_due : (least p q : ℕ) → least ≤ p → p < least + place_count shape → least ≤ q → q < least + place_count shape → place_of shape p ≡ place_of shape q → p ≡ q
  same_due least p q low high low' high' same = search (rules, cases_lt, same_in_lap_of)

  -- a word of a place is one of a position's block there
  pub word_there : (a i w p : ℕ) → place_at shape a ≡ Some (AtData i w) → place_of shape p ≡ i → (w < 4) × (a ≡ address_of shape p + 4 * w)
  word_there a i w p at here =
      let where_ = place_at-Data shape allowed a i w at in
      (where_.1, where_.2 ∙ ap (λ j. slice_index (data_places shape) j + 4 * w) (sym here))

  -- one behind the place before a Link: a crossing over this Link
  pub crossing_behind : (j p : ℕ) → j < length (links shape) → place_of shape p + 1 ≡ slice_index (ends shape) j → link_crossed shape (p + 1) ≡ Some j
  crossing_behind j p link end = search (rules, length, slice_index, crosses-from)

  -- the crossing over a Link that is due from a number on
  pub due_crossing : (least j : ℕ) → j < length (links shape) → (q : ℕ) × (max least 1 ≤ q) × (q < max least 1 + place_count shape) × (link_crossed shape q ≡ Some j)
  due_crossing least j link =
      let lap = end_in_lap shape allowed j link in
      let found = due_number (max least 1 - 1) (slice_index (ends shape) j - 1) (omega arith) in
      let p : ℕ = found.0 in
      let due : IsDue shape (max least 1 - 1) (slice_index (ends shape) j - 1) p = found.1 in
      (p + 1, omega (arith, due.from), omega (arith, due.within), crossing_behind j p link (omega (arith, due.place_is)))

  -- there is one such crossing
  pub same_due_crossing : (least j q r : ℕ) → least ≤ q → q < least + place_count shape → least ≤ r → r < least + place_count shape →
      link_crossed shape q ≡ Some j → link_crossed shape r ≡ Some j → q ≡ r
  same_due_crossing least j q r low high low' high' over over' = search (rules, cases_lt, same_crossing)
