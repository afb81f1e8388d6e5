-- How far the pointers of a driver's rings have come, and which positions are given, summed: looks move pointers on, by as many places as there are looks
use Rattle.safety.proofs.LowerLaws.{put_at, put_off, ◌≡◌, ◌≢◌, ◌+◌, ◌*◌, ◌<◌, ◌≤◌, ℕ, suc, zero, arith, sym, subst, inl, inr, cases_eq, cases_lt, ◌||◌, ◌∙◌, Bool, true, false, refl, ap, cases_Bool, is_inside, RingView, Writes, changed, gives, IsShape, Shape, address_inside, gives_is, gives_one, ◌∷◌, List, filter, length, max, nat_lt, ltb-true, ltb-false, rules, cond_both, length-map, next, number, rank, spots_from, Spot, number-after, next_later, Header, RingSpot, behind_blocks, further, looks_to, spots_before, [], ◌-◌, ◌==◌, if◌then◌else◌, map, eq-eqb, ne_eqb, length-append, cond-false, cond-true, flat_map, put, rank_least, rank_most, Step, Look, command_id, ring_with, shape_of, is_driver_ring, brought}

-- Sums of a function over the numbers below a bound

-- f 0 + .. + f (n - 1)
pub total : (ℕ → ℕ) → ℕ → ℕ
total f zero = 0
total f (suc n) = total f n + f n

pub total_le : (f g : ℕ → ℕ) (n : ℕ) → ((i : ℕ) → f i ≤ g i) → total f n ≤ total g n
unfolding total
total_le f g zero le = omega arith
total_le f g (suc n) le = omega (arith, total_le f g n le, le n)

total_below : (f g : ℕ → ℕ) (n : ℕ) → ((i : ℕ) → i < n → f i ≤ g i) → total f n ≤ total g n
unfolding total
total_below f g zero le = omega arith
total_below f g (suc n) le = omega (arith, total_below f g n (λ i below. le i (omega arith)), le n (omega arith))

-- one grows by d, and none shrinks
pub total_grows : (f g : ℕ → ℕ) (r d n : ℕ) → r < n → ((i : ℕ) → i ≢ r → f i ≤ g i) → f r + d ≤ g r → total f n + d ≤ total g n
unfolding total
total_grows f g r d zero below others here = absurd (omega arith)
total_grows f g r d (suc n) below others here =
    elim (cases_eq r n) [
      | inl last ↦ omega (arith, total_below f g n (λ i low. others i (λ same. omega arith)), subst (λ m. f m + d ≤ g m) last here)
      | inr other ↦ omega (arith, total_grows f g r d n (omega arith) others here, others n (λ same. other (sym same)))
    ]

-- one grows by d at most, and no other does
pub total_most : (f g : ℕ → ℕ) (r d n : ℕ) → ((i : ℕ) → i ≢ r → g i ≤ f i) → g r ≤ f r + d → total g n ≤ total f n + d
unfolding total
total_most f g r d zero others here = omega arith
total_most f g r d (suc n) others here =
    elim (cases_eq r n) [
      | inl last ↦ omega (arith, total_below g f n (λ i low. others i (λ same. omega arith)), subst (λ m. g m ≤ f m + d) last here)
      | inr other ↦ omega (arith, total_most f g r d n others here, others n (λ same. other (sym same)))
    ]

-- each grows by one at most, and no two do
pub total_one : (f g : ℕ → ℕ) (n : ℕ) → ((i : ℕ) → g i ≤ f i + 1) → ((i j : ℕ) → f i < g i → f j < g j → i ≡ j) → total g n ≤ total f n + 1
unfolding total
total_one f g zero near one = omega arith
total_one f g (suc n) near one =
    elim (cases_lt (f n) (g n)) [
      | inl grows ↦
          omega (arith, near n, total_below g f n (λ i low. elim (cases_lt (f i) (g i)) [ inl more ↦ let same = one i n more grows in absurd (omega arith) | inr none ↦ none ]))
      | inr none ↦ omega (arith, total_one f g n near one)
    ]

pub total_ones : (f : ℕ → ℕ) (n : ℕ) → ((i : ℕ) → i < n → f i ≡ 1) → total f n ≡ n
unfolding total
total_ones f zero ones = omega arith
total_ones f (suc n) ones = let rest : total f n ≡ n = total_ones f n (λ i low. ones i (omega arith)) in let end : f n ≡ 1 = ones n (omega arith) in omega arith

pub total_none : (f : ℕ → ℕ) (n : ℕ) → ((i : ℕ) → f i ≡ 0) → total f n ≡ 0
unfolding total
total_none f zero none = omega arith
total_none f (suc n) none = let rest : total f n ≡ 0 = total_none f n none in let end : f n ≡ 0 = none n in omega arith

pub total_twice : (f : ℕ → ℕ) (n : ℕ) → total (λ i. 2 * f i) n ≡ 2 * total f n
unfolding total
total_twice f zero = omega arith
total_twice f (suc n) = let rest : total (λ i. 2 * f i) n ≡ 2 * total f n = total_twice f n in omega arith

-- How many positions of a ring are given: a write gives one more at most, and none of a ring that doesn't have its word

pub bit : Bool → ℕ
bit true = 1
bit false = 0

pub bit_most : (b : Bool) → bit b ≤ 1
unfolding bit
bit_most b = grind arith

pub bit_set : (b : Bool) → b ≡ true → bit b ≡ 1
unfolding bit
bit_set b set = grind arith

pub bit_clear : (b : Bool) → b ≡ false → bit b ≡ 0
unfolding bit
bit_clear b set = grind arith

newly : (was now : Bool) → bit was < bit (was || now) → now ≡ true
unfolding bit
newly was now more = grind arith

not_newly : (was now : Bool) → now ≡ false → bit (was || now) ≤ bit was
unfolding bit
not_newly was now none = grind arith

-- how many of the first n positions are given
pub given_among : RingView → ℕ → ℕ
given_among v n = total (λ p. bit (v.given p)) n

-- where all of them are
pub all_given : (v : RingView) (n : ℕ) → ((p : ℕ) → p < n → v.given p ≡ true) → given_among v n ≡ n
unfolding given_among
all_given v n all = total_ones (λ p. bit (v.given p)) n (λ p low. bit_set (v.given p) (all p low))

pub none_given : (v : RingView) (n : ℕ) → ((p : ℕ) → v.given p ≡ false) → given_among v n ≡ 0
unfolding given_among
none_given v n none = total_none (λ p. bit (v.given p)) n (λ p. bit_clear (v.given p) (none p))

pub same_given : (v w : RingView) (n : ℕ) → w.given ≡ v.given → given_among w n ≡ given_among v n
unfolding given_among
same_given v w n same = ap (λ (g : ℕ → Bool). total (λ p. bit (g p)) n) same

module _ (shape : Shape) (is : IsShape shape) (v : RingView) (a w n : ℕ) where
  pub one_more : given_among (changed shape v (Writes a w)) n ≤ given_among v n + 1
  unfolding given_among
  one_more =
      total_one (λ p. bit (v.given p)) (λ p. bit (v.given p || gives shape v.floor p a w)) n
      (λ p. let most = bit_most (v.given p || gives shape v.floor p a w) in omega (arith, most))
      (λ p q first second. gives_one shape is v.floor a w p q (newly (v.given p) (gives shape v.floor p a w) first) (newly (v.given q) (gives shape v.floor q a w) second))

  gives_none : is_inside shape a ≡ false → (p : ℕ) → gives shape v.floor p a w ≡ false
  gives_none outside p = grind (arith, cases_Bool (gives shape v.floor p a w), gives_is shape v.floor p a w, address_inside shape is p 12)

  pub no_more : is_inside shape a ≡ false → given_among (changed shape v (Writes a w)) n ≤ given_among v n
  unfolding given_among
  no_more outside = search (rules, total_le, not_newly, gives_none)

-- How many looks bring a ring to a spot: no more than there are places between the two

spots_few : (shape : Shape) (s t : Spot) (n : ℕ) → length (filter (λ u. nat_lt (rank u) (rank t)) (spots_from shape s n)) + rank s ≤ max (rank s) (rank t)
spots_few shape s t zero = omega arith
spots_few shape s t (suc n) = grind (arith, ltb-true (rank s) (rank t), ltb-false (rank s) (rank t), next_later shape s, spots_few shape (next shape s) t n)

further_rank : (s t : Spot) → rank (further s t) ≡ max (rank s) (rank t)
unfolding further
further_rank s t = search (rules, arith, cond_both, nat_lt, rank, max, ltb-true, ltb-false)

-- it is one of the two
pub further_most : (s t : Spot) (n : ℕ) → number s ≤ n → number t ≤ n → number (further s t) ≤ n
unfolding further
further_most s t n a b = cond_both (nat_lt (rank s) (rank t)) t s (λ u. number u ≤ n) (λ _. b) (λ _. a)

pub number_taken : (shape : Shape) (n : ℕ) → number (behind_blocks shape n) ≡ n
unfolding behind_blocks
number_taken shape zero = omega arith
number_taken shape (suc p) = number-after shape p ∙ omega arith

module _ (h : Header) where
  pub looks_few : (pointers : ℕ → Spot) (goal : RingSpot) →
      length (looks_to h pointers goal) + rank (pointers goal.ring) ≤ rank (further (pointers goal.ring) goal.spot)
  unfolding looks_to spots_before
  looks_few pointers goal = search (rules, length, filter, nat_lt, length-map, spots_few, further_rank)

module _ (h : Header) where
  -- n, of a ring of the driver
  unfoldable pub of_driver : ℕ → ℕ → ℕ
  of_driver r n = if is_driver_ring (ring_with h r) then n else 0

  -- of the command ring each place counts, of any other ring a place and its Link as two: a Set TR Dequeue may go back to the Link
  unfoldable pub place_value : ℕ → Spot → ℕ
  place_value r t = if r == command_id h then rank t else 2 * number t

  unfoldable pub come_to : ℕ → Spot → ℕ
  come_to r t = of_driver r (place_value r t)

  -- the sum over the rings
  unfoldable pub progress : (ℕ → Spot) → ℕ
  progress pointers = total (λ r. come_to r (pointers r)) 256

  pub on_driver : (r n : ℕ) → is_driver_ring (ring_with h r) ≡ true → of_driver r n ≡ n
  unfolding of_driver
  on_driver r n driver = cond-true (is_driver_ring (ring_with h r)) n 0 driver

  pub off_driver : (r n : ℕ) → is_driver_ring (ring_with h r) ≡ false → of_driver r n ≡ 0
  unfolding of_driver
  off_driver r n other = cond-false (is_driver_ring (ring_with h r)) n 0 other

  pub none_of_driver : (r : ℕ) → of_driver r 0 ≡ 0
  unfolding of_driver
  none_of_driver r = cond_both (is_driver_ring (ring_with h r)) 0 0 (λ n. n ≡ 0) (λ _. refl) (λ _. refl)

  pub driver_le : (r m n : ℕ) → (is_driver_ring (ring_with h r) ≡ true → m ≤ n) → of_driver r m ≤ of_driver r n
  unfolding of_driver
  driver_le r m n le = search (rules, cond-true, cond-false)

  pub command_value : (t : Spot) → place_value (command_id h) t ≡ rank t
  unfolding place_value
  command_value t = cond-true (command_id h == command_id h) (rank t) (2 * number t) (eq-eqb (command_id h) (command_id h) refl)

  pub transfer_value : (r : ℕ) (t : Spot) → r ≢ command_id h → place_value r t ≡ 2 * number t
  unfolding place_value
  transfer_value r t other = cond-false (r == command_id h) (rank t) (2 * number t) (ne_eqb r (command_id h) other)

  come_same : (pointers : ℕ → Spot) (r : ℕ) (t : Spot) (q : ℕ) → q ≢ r → come_to q (pointers q) ≤ come_to q (put pointers r t q)
  come_same pointers r t q other = let same = ap (λ s. come_to q s) (put_off pointers r t q other) in omega (arith, same)

  module _ (pointers : ℕ → Spot) (goal : RingSpot) (low : goal.ring < 256) (driver : is_driver_ring (ring_with h goal.ring) ≡ true) where
    there : Spot
    there = further (pointers goal.ring) goal.spot

    looked : ℕ
    looked = length (looks_to h pointers goal)

    -- a ring comes on by so much at least
    moves : (d : ℕ) → place_value goal.ring (pointers goal.ring) + d ≤ place_value goal.ring there → progress pointers + d ≤ progress (put pointers goal.ring there)
    unfolding progress come_to
    moves d on =
        total_grows (λ r. come_to r (pointers r)) (λ r. come_to r (put pointers goal.ring there r)) goal.ring d 256 low (come_same pointers goal.ring there)
        (omega (arith, on, on_driver, ap (λ t. of_driver goal.ring (place_value goal.ring t)) (put_at pointers goal.ring there)))

    pub command_looks : goal.ring ≡ command_id h → progress pointers + length (looks_to h pointers goal) ≤ progress (put pointers goal.ring (further (pointers goal.ring) goal.spot))
    unfolding there looked
    command_looks command =
        let value : (t : Spot) → place_value goal.ring t ≡ rank t = λ t. ap (λ r. place_value r t) command ∙ command_value t in moves looked (omega (arith, value, looks_few))

    pub ring_looks : goal.ring ≢ command_id h → progress pointers + length (looks_to h pointers goal) ≤ progress (put pointers goal.ring (further (pointers goal.ring) goal.spot)) + 1
    unfolding there looked
    ring_looks other = omega (arith, moves (looked - 1) (omega (arith, transfer_value, other, looks_few, rank_least, rank_most)))

  -- ---- the looks for an event

  abbrev pub AreFew : (ℕ → Spot) → List RingSpot → Type 0
  AreFew pointers goals = progress pointers + length (flat_map (looks_to h pointers) goals) ≤ progress (brought h pointers goals) + 1

  pub no_goal : (pointers : ℕ → Spot) → AreFew pointers []
  unfolding brought
  no_goal pointers = omega arith

  flat_one : (pointers : ℕ → Spot) (goal : RingSpot) (rest : List RingSpot) →
      length (flat_map (looks_to h pointers) (goal ∷ rest)) ≡ length (looks_to h pointers goal) + length (flat_map (looks_to h pointers) rest)
  flat_one pointers goal rest = length-append (looks_to h pointers goal) (flat_map (looks_to h pointers) rest)

  module _ (pointers : ℕ → Spot) (goal : RingSpot) (low : goal.ring < 256) (driver : is_driver_ring (ring_with h goal.ring) ≡ true) where
    pub command_goal : goal.ring ≡ command_id h → AreFew pointers (goal ∷ [])
    unfolding brought
    command_goal command = omega (arith, flat_one pointers goal [], command_looks pointers goal low driver command)

    pub ring_goal : goal.ring ≢ command_id h → AreFew pointers (goal ∷ [])
    unfolding brought
    ring_goal other = omega (arith, flat_one pointers goal [], ring_looks pointers goal low driver other)

  same_looks : (pointers now : ℕ → Spot) (goal : RingSpot) → now goal.ring ≡ pointers goal.ring → looks_to h now goal ≡ looks_to h pointers goal
  unfolding looks_to
  same_looks pointers now goal same = ap (λ s. map (λ t. Look goal.ring) (spots_before (shape_of h goal.ring) s goal.spot)) same

  pub two_goals : (pointers : ℕ → Spot) (command goal : RingSpot) → command.ring ≡ command_id h → goal.ring ≢ command_id h → command.ring < 256 → goal.ring < 256 →
      is_driver_ring (ring_with h command.ring) ≡ true → is_driver_ring (ring_with h goal.ring) ≡ true → AreFew pointers (command ∷ goal ∷ [])
  unfolding brought
  two_goals pointers command goal first other low_first low driver_first driver =
      let now : ℕ → Spot = put pointers command.ring (further (pointers command.ring) command.spot) in
      let same : now goal.ring ≡ pointers goal.ring = put_off pointers command.ring (further (pointers command.ring) command.spot) goal.ring (λ same. other (same ∙ first)) in
      let looks = ap (λ (l : List Step). length l) (same_looks pointers now goal same) in
      omega (arith, flat_one, looks, command_looks pointers command low_first driver_first first, ring_looks now goal low driver other)
