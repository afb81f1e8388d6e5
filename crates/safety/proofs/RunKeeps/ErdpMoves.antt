-- How far a written ERDP takes the dequeue pointer
use Rattle.safety.proofs.Words.{[], ◌≡◌, ◌+◌, ◌<◌, ◌∷◌, List, length, slice_index, mod-lt, ◌≤◌, ◌==◌, ◌⊎◌, ◌∙◌, ℕ, suc, zero, Bool, true, false, nat_lt, Some, find, unwrap_or, is_some, arith, sym, ap, inl, inr, rules, and_cases, not-false, not-true, erdp_address, Header, Erdp, event_shape, Known, is_bad_erdp, may_pass, names_no_place, or_left, or_right, data_places, is_event_place, list_any, range_with_len, cases_Bool, cond-true, cond-false, and_parts, or_cases, false≢true, none-some, same_Some, Shape, place_count, address_of, cases_option, position_from, is_reached_within, place_of, place_of-parts, refl, subst}

-- what is found in a range lies in it
found_from : (test : ℕ → Bool) (a n q : ℕ) → find test (range_with_len a n) ≡ Some q → (a ≤ q) × (q < a + n)
found_from test a zero q at = absurd (none-some q at)
found_from test a (suc n) q at =
    elim (cases_Bool (test a)) [
      | inl here ↦ grind (arith, same_Some, cond-true)
      | inr later ↦ grind (arith, cond-false, found_from test (a + 1) n q (sym (cond-false (test a) (Some a) (find test (range_with_len (a + 1) n)) later) ∙ at))
    ]

-- and below m where some number below m passes
found_below : (test : ℕ → Bool) (a n m q : ℕ) → list_any test (range_with_len a m) ≡ true → find test (range_with_len a n) ≡ Some q → q < a + m
found_below test a zero m q some at = absurd (none-some q at)
found_below test a (suc n) zero q some at = absurd (false≢true some)
found_below test a (suc n) (suc m) q some at =
    elim (cases_Bool (test a)) [
      | inl here ↦
          let same : a ≡ q = same_Some a q (sym (cond-true (test a) (Some a) (find test (range_with_len (a + 1) n)) here) ∙ at) in omega arith
      | inr later ↦
          let rest : list_any test (range_with_len (a + 1) m) ≡ true =
          elim (or_cases (test a) (list_any test (range_with_len (a + 1) m)) some) [ inl first ↦ absurd (false≢true (sym later ∙ first)) | inr on ↦ on ] in
          let below = found_below test (a + 1) n m q rest (sym (cond-false (test a) (Some a) (find test (range_with_len (a + 1) n)) later) ∙ at) in omega arith
    ]

-- what is found passes
found_passes : (test : ℕ → Bool) (a n q : ℕ) → find test (range_with_len a n) ≡ Some q → test q ≡ true
found_passes test a zero q at = absurd (none-some q at)
found_passes test a (suc n) q at =
    elim (cases_Bool (test a)) [
      | inl here ↦ ap test (sym (same_Some a q (sym (cond-true (test a) (Some a) (find test (range_with_len (a + 1) n)) here) ∙ at))) ∙ here
      | inr later ↦ found_passes test (a + 1) n q (sym (cond-false (test a) (Some a) (find test (range_with_len (a + 1) n)) later) ∙ at)
    ]

any_index : (test : ℕ → Bool) (xs : List ℕ) (i : ℕ) → i < length xs → test (slice_index xs i) ≡ true → list_any test xs ≡ true
any_index test [] i low at = absurd (omega arith)
any_index test (x ∷ xs) zero low at = or_left (test x) (list_any test xs) at
any_index test (x ∷ xs) (suc i) low at = or_right (test x) (list_any test xs) (any_index test xs i (omega arith) at)

-- the place of a position is an event place
pub event_place_of : (shape : Shape) (q a : ℕ) → 0 < place_count shape → (address_of shape q == a) ≡ true → is_event_place shape a ≡ true
event_place_of shape q a some is =
    any_index (λ x. x == a) (data_places shape) (place_of shape q) (subst (λ i. i < place_count shape) (place_of-parts shape (place_count shape) q refl) (mod-lt _ some)) is

-- an address that is no event place moves nothing
pub no_place_stays : (shape : Shape) (p a : ℕ) → is_event_place shape a ≡ false → position_from shape p a ≡ p
no_place_stays shape p a none = search (rules, cases_option, find, unwrap_or, found_from, false≢true, event_place_of, found_passes)

module _ (shape : Shape) (p more address : ℕ) (reached : is_reached_within shape p more address ≡ true) where
  some : list_any (λ q. address_of shape q == address) (range_with_len p (more + 1)) ≡ true
  some = (and_parts (nat_lt 0 (place_count shape)) (list_any (λ q. address_of shape q == address) (range_with_len p (more + 1))) reached).1

  -- no further back, and at most that much further
  pub position_within : (p ≤ position_from shape p address) × (position_from shape p address ≤ p + more)
  position_within = search (rules, cases_option, find, found_from, found_below, some)

-- a good ERDP names a place up to what may be passed or, before the start, no event place
pub erdp_says : (h : Header) (k : Known) (v : ℕ) → is_bad_erdp h k Erdp v ≡ false →
    (is_reached_within (event_shape h) k.dequeue (may_pass k) (erdp_address v) ≡ true) ⊎ ((k.started ≡ false) × (is_event_place (event_shape h) (erdp_address v) ≡ false))
unfolding is_bad_erdp names_no_place
erdp_says h k v good = search (rules, and_cases, and_parts, is_some, not-false, not-true)

-- the other way round
pub reached_is_good : (h : Header) (k : Known) (v : ℕ) → is_reached_within (event_shape h) k.dequeue (may_pass k) (erdp_address v) ≡ true → is_bad_erdp h k Erdp v ≡ false
unfolding is_bad_erdp
reached_is_good h k v reached = search rules

-- the pointer goes no further back than it was, nor further on than what may be passed
pub erdp_within : (h : Header) (k : Known) (v : ℕ) → is_bad_erdp h k Erdp v ≡ false →
    (k.dequeue ≤ position_from (event_shape h) k.dequeue (erdp_address v)) × (position_from (event_shape h) k.dequeue (erdp_address v) ≤ k.dequeue + may_pass k)
erdp_within h k v good = grind (arith, erdp_says, position_within, no_place_stays, erdp_says h k v good)
