-- Where one endpoint alone has a ring, the sum of numbers that is kept of the ring is its number
use Rattle.trace_record.proofs.MiddleLaws.{rules, common_steps, ◌≡◌, ◌≢◌, ◌+◌, ◌*◌, ◌<◌, ◌≤◌, ◌∙◌, ◌∷◌, ℕ, zero, suc, true, false, List, [], Option, Some, None, ap, sym, refl, arith, length, get_or, nat_lt, replicate, slice_index_or, lt-ltb, cond-true, Known, DeviceRecord, FollowsDevices, eqb-true, false≢true, Endpoint, fresh_endpoint, ◌/◌, ◌%◌, nat_eq, option_eq, set, sum_by-set, is_ring, Holders, AreCounted, AreSummed, HasOneHolder, HasRoom, HasSumRoom, IsSummed, count_of, one_of, place_of, places_sum, sum_of, is_same, alike, named}
use Rattle.trace_record.proofs.DeviceSlots.HolderCounts.{read_at}

-- ---- the numbers of a list

-- one of them is in the sum
in_sum : (r : ℕ) (xs : List Endpoint) (start n : ℕ) (d : Endpoint) → n < length xs → place_of r (get_or xs n d).ring (start + n) ≤ places_sum r xs start
unfolding places_sum
in_sum r [] start n d below = absurd (omega arith)
in_sum r (x ∷ xs) start zero d below = let same : start + 0 ≡ start = omega arith in rw same (omega arith)
in_sum r (x ∷ xs) start (suc n) d below = search (rules, get_or, in_sum r xs (start + 1) n d (omega arith))

-- another endpoint in place of one
sum_set : (r : ℕ) (xs : List Endpoint) (start n : ℕ) (x d : Endpoint) → n < length xs →
    places_sum r (set xs n x) start + place_of r (get_or xs n d).ring (start + n) ≡ places_sum r xs start + place_of r x.ring (start + n)
unfolding places_sum
sum_set r [] start n x d below = absurd (omega arith)
sum_set r (y ∷ xs) start zero x d below = let same : start + 0 ≡ start = omega arith in rw same (omega arith)
sum_set r (y ∷ xs) start (suc n) x d below = search (rules, set, get_or, sum_set r xs (start + 1) n x d (omega arith))

-- it isn't large
few : (r : ℕ) (xs : List Endpoint) (start most : ℕ) → start + length xs ≤ most → places_sum r xs start ≤ length xs * most
unfolding places_sum
few r [] start most fits = omega arith
few r (x ∷ xs) start most fits = search (rules, length, few r xs (start + 1) most (omega arith))

-- none has the ring
none : (r : ℕ) (xs : List Endpoint) (start : ℕ) → ((m : ℕ) (d : Endpoint) → m < length xs → is_ring r (get_or xs m d).ring ≡ false) → places_sum r xs start ≡ 0
unfolding places_sum
none r [] start never = refl
none r (x ∷ xs) start never = grind (arith, never 0 x (omega arith), none r xs (start + 1) (λ m d below. never (suc m) d (omega arith)))

-- one alone has it
alone : (r : ℕ) (xs : List Endpoint) (start n : ℕ) → n < length xs → ((d : Endpoint) → is_ring r (get_or xs n d).ring ≡ true) →
    ((m : ℕ) (d : Endpoint) → m < length xs → m ≢ n → is_ring r (get_or xs m d).ring ≡ false) → places_sum r xs start ≡ start + n
unfolding places_sum
alone r [] start n below has others = absurd (omega arith)
alone r (x ∷ xs) start zero below has others = grind (arith, has x, none r xs (start + 1) (λ m d within. others (suc m) d (omega arith) (omega arith)))
alone r (x ∷ xs) start (suc n) below has others =
    grind (arith, others 0 x (omega arith) (omega arith), alone r xs (start + 1) n (omega arith) has (λ m d within other. others (suc m) d (omega arith) (omega arith)))

none_fresh : (r n start : ℕ) → places_sum r (replicate n fresh_endpoint) start ≡ 0
unfolding places_sum
none_fresh r zero start = refl
none_fresh r (suc n) start = search (rules, replicate, fresh_endpoint, none_fresh r n (start + 1))

pub fresh_summed : (es : List Endpoint) (hs : Holders) (n : ℕ) → es ≡ replicate n fresh_endpoint → hs.sums.items ≡ replicate 256 0 → AreSummed es hs
fresh_summed es hs n none zeros = λ r fits.
    ap (λ xs. slice_index_or xs r 0) zeros ∙ alike 256 r 0 ∙ sym (ap (λ xs. places_sum r xs 0) none ∙ none_fresh r n 0)

-- ---- another endpoint in place of one

module _ (es : List Endpoint) (hs : Holders) (counted : AreCounted es hs) (summed : AreSummed es hs) (n : ℕ) (d : Endpoint) (below : n < length es) where
  among : (r : ℕ) → place_of r (get_or es n d).ring n ≤ places_sum r es 0
  among r = let same : 0 + n ≡ n = omega arith in rw same at (in_sum r es 0 n d below)

  set_one : (r : ℕ) (x : Endpoint) → places_sum r (set es n x) 0 + place_of r (get_or es n d).ring n ≡ places_sum r es 0 + place_of r x.ring n
  set_one r x = let same : 0 + n ≡ n = omega arith in rw same at (sum_set r es 0 n x d below)

  pub leaves_sum : (o : Option ℕ) → (get_or es n d).ring ≡ o → IsSummed hs o n
  leaves_sum None is = tt
  leaves_sum (Some r) is = λ fits. grind (arith, among r, summed r fits, is_same r (get_or es n d).ring is)

  pub takes_sum : (o : Option ℕ) → length es ≡ 256 * 32 → HasSumRoom hs o n
  takes_sum o h1 = search (rules, length, few)

  -- which has another ring, or the same
  pub counted_now : (new : Holders) (x : Endpoint) → ((r : ℕ) → count_of new r + one_of r (get_or es n d).ring ≡ count_of hs r + one_of r x.ring) → AreCounted (set es n x) new
  counted_now new x now = λ r fits. omega (arith, counted r fits, now r, sum_by-set (λ (e : Endpoint). one_of r e.ring) es n x d below)

  pub summed_now : (new : Holders) (x : Endpoint) → ((r : ℕ) → sum_of new r + place_of r (get_or es n d).ring n ≡ sum_of hs r + place_of r x.ring n) → AreSummed (set es n x) new
  summed_now new x now = λ r fits. omega (arith, summed r fits, now r, set_one r x)

-- room stays where one lets go
pub room_left : (old left : Holders) (before o : Option ℕ) → ((r : ℕ) → count_of left r + one_of r before ≡ count_of old r) → HasRoom old o → HasRoom left o
room_left old left before o h1 h2 = search rules

pub sum_room_left : (old left : Holders) (before o : Option ℕ) (n : ℕ) → ((r : ℕ) → sum_of left r + place_of r before n ≡ sum_of old r) → HasSumRoom old o n → HasSumRoom left o n
sum_room_left old left before o n h1 h2 = search rules

-- one lets go and another is taken
pub passed_on : (left new old before now : ℕ) → left + before ≡ old → new ≡ left + now → new + before ≡ old + now
passed_on left new old before now leaves takes = omega (arith, leaves, takes)

-- ---- the endpoint that has a ring

get_or_within : (xs : List Endpoint) (m : ℕ) (a b : Endpoint) → m < length xs → get_or xs m a ≡ get_or xs m b
get_or_within xs m a b h1 = grind (arith, common_steps)

module _ (k : Known) (d : DeviceRecord) (f : FollowsDevices k d) (r : ℕ) (fits : r < 256) (one : HasOneHolder k r) (s i : ℕ) (has : k.ring_of s i ≡ Some r) where
  here : (i < 32) × (s * 32 + i < length d.endpoints.items) × ((get_or d.endpoints.items (s * 32 + i) fresh_endpoint).ring ≡ Some r)
  here = read_at k d f r s i has

  other : (m : ℕ) (e : Endpoint) → m < length d.endpoints.items → m ≢ s * 32 + i → is_ring r (get_or d.endpoints.items m e).ring ≡ false
  other m e below away = grind (arith, one (m / 32) (m % 32) s i, nat_lt, lt-ltb, cond-true, slice_index_or, fresh_endpoint, get_or_within d.endpoints.items m e fresh_endpoint below, named r (get_or d.endpoints.items m e).ring)

  -- its number is the sum
  pub its_number : (sum_of d.holders r ≡ s * 32 + i) × (i < 32) × (s * 32 + i < 256 * 32)
  its_number = search (rules, here, alone r d.endpoints.items 0 (s * 32 + i), is_same, get_or_within, other, d.summed r fits, d.endpoints_many)

-- two rings that are found to be one
pub same_ring : (a b : Option ℕ) → option_eq nat_eq a b ≡ true → a ≡ b
same_ring a b h1 = search (rules, false≢true, eqb-true)
