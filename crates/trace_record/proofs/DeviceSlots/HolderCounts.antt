-- The endpoints that have a ring are counted
use Rattle.trace_record.proofs.LowerLaws.{rules, ◌≡◌, ◌+◌, ◌*◌, ◌<◌, ◌≤◌, ◌∙◌, ◌∷◌, ℕ, suc, true, List, [], Option, Some, ap, sym, refl, arith, inl, inr, length, get_or, nat_lt, replicate, slice_index_or, sum_by, sum_by-le, lt-ltb, le-ltb, cond-true, cond-false, none-some, Known, DeviceRecord, FollowsDevices, endpoint_at, sum_by-cons, cases_Bool, eq-eqb, eqb-true, false≢true, Endpoint, fresh_endpoint, ◌/◌, ◌%◌, get_or_past, sum_by-replicate, get_or-le-sum_by, is_ring, Holders, AreCounted, HasEndpoint, IsCounted, HasRoom, count_of, one_of, alike}

pub is_same : (r : ℕ) (o : Option ℕ) → o ≡ Some r → is_ring r o ≡ true
is_same r o same = ap (is_ring r) same ∙ eq-eqb r r refl

-- one that has the ring counts
sum_at : (r : ℕ) (xs : List Endpoint) (n : ℕ) (d : Endpoint) → n < length xs → (get_or xs n d).ring ≡ Some r → 0 < sum_by (λ e. one_of r e.ring) xs
sum_at r xs n d below is = search (rules, get_or-le-sum_by, get_or, is_same)

pub named : (r : ℕ) (o : Option ℕ) → is_ring r o ≡ true → o ≡ Some r
named r o h1 = search (rules, false≢true, eqb-true)

-- where one is counted there is one that has it
sum_where : (r : ℕ) (xs : List Endpoint) → 0 < sum_by (λ e. one_of r e.ring) xs → (n : ℕ) × (n < length xs) × ((d : Endpoint) → (get_or xs n d).ring ≡ Some r)
sum_where r [] some = absurd (omega (arith, some))
sum_where r (x ∷ xs) some = elim (cases_Bool (is_ring r x.ring)) [
  | inl here ↦ (0, omega arith, λ d. named r x.ring here)
  | inr later ↦
      let rest = sum_where r xs (grind (arith, some, later, sum_by-cons (λ (e : Endpoint). one_of r e.ring) x xs)) in
      (suc rest.0, omega (arith, rest.1), rest.2)
]

-- not more are counted than there are
few : (r : ℕ) (xs : List Endpoint) → sum_by (λ e. one_of r e.ring) xs ≤ length xs
few r xs = omega (arith, sum_by-le (λ (e : Endpoint). one_of r e.ring) 1 xs (λ k d below. search rules))

module _ (es : List Endpoint) (hs : Holders) (all : AreCounted es hs) where
  pub leaves : (o : Option ℕ) (n : ℕ) (d : Endpoint) → n < length es → (get_or es n d).ring ≡ o → IsCounted hs o
  leaves o n d h1 h2 = search (rules, sum_at)

  pub takes : (o : Option ℕ) → length es ≡ 256 * 32 → HasRoom hs o
  takes o h1 = search (rules, few)

pub fresh_counted : (es : List Endpoint) (hs : Holders) (n : ℕ) → es ≡ replicate n fresh_endpoint → hs.counts.items ≡ replicate 256 0 → AreCounted es hs
fresh_counted es hs n none zeros = λ r fits.
    ap (λ xs. slice_index_or xs r 0) zeros ∙ alike 256 r 0 ∙ sym (ap (λ xs. sum_by (λ (e : Endpoint). one_of r e.ring) xs) none ∙ (omega (arith, sum_by-replicate (λ (e : Endpoint). one_of r e.ring) n fresh_endpoint)))

-- ---- whether an endpoint has a ring

module _ (k : Known) (d : DeviceRecord) (f : FollowsDevices k d) (r : ℕ) where
  -- an endpoint that has the ring is kept so
  pub read_at : (s i : ℕ) → k.ring_of s i ≡ Some r → (i < 32) × (s * 32 + i < length d.endpoints.items) × ((get_or d.endpoints.items (s * 32 + i) fresh_endpoint).ring ≡ Some r)
  read_at s i has = search (rules, endpoint_at, none-some, cond-false, nat_lt, slice_index_or, fresh_endpoint, le-ltb, cond-true, lt-ltb, length, get_or_past)

module _ (k : Known) (d : DeviceRecord) (f : FollowsDevices k d) (r : ℕ) (fits : r < 256) where
  counted : count_of d.holders r ≡ sum_by (λ (e : Endpoint). one_of r e.ring) d.endpoints.items
  counted = d.counted r fits

  pub one_has : 0 < count_of d.holders r → HasEndpoint k r
  one_has some =
      let there = sum_where r d.endpoints.items (omega (arith, some)) in
      let at : there.0 / 32 * 32 + there.0 % 32 ≡ there.0 = omega arith in
      grind (arith, nat_lt, lt-ltb, cond-true, slice_index_or, fresh_endpoint)

  pub none_has : (0 < count_of d.holders r → ⊥) → (s i : ℕ) → k.ring_of s i ≡ Some r → ⊥
  none_has none s i has = search (rules, read_at, sum_at, fresh_endpoint)
