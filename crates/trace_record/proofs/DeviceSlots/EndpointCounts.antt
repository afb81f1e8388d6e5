-- How many endpoints of a slot have a command, where one is kept otherwise
use Rattle.trace_record.proofs.UpperLaws.{rules, ◌≡◌, ◌≢◌, ◌<◌, ◌≤◌, ◌+◌, ◌-◌, ◌*◌, ◌==◌, ◌&&◌, ◌∙◌, if◌then◌else◌, ℕ, zero, suc, true, false, List, ap, sym, refl, arith, length, replicate, slice_index_or, slice_set, is_some, get_or-set_same, get_or-set_other, eq-eqb, ne_eqb, lt-ltb, le-ltb, cases_eq, cases_lt, and_left, and_right, range_with_len, sum_by, sum_by-cons, KeptCommand, endpoint_count, kept_at, kept_count, no_command, get_or_default, alike}
use Rattle.trace_record.proofs.DeviceSlots.Placing.{set_at}

-- ---- sums over a range

module _ (f g : ℕ → ℕ) where
  sum_same : (a n : ℕ) → ((i : ℕ) → a ≤ i → i < a + n → f i ≡ g i) → sum_by f (range_with_len a n) ≡ sum_by g (range_with_len a n)
  sum_same a zero same = refl
  sum_same a (suc n) same = search (rules, sum_by, range_with_len, sum_by-cons, sum_same (a + 1) n (λ i from below. same i (omega (arith, from)) (omega (arith, below))))

  -- but for one number
  sum_but : (a n i : ℕ) → a ≤ i → i < a + n → ((j : ℕ) → j ≢ i → f j ≡ g j) → sum_by g (range_with_len a n) + f i ≡ sum_by f (range_with_len a n) + g i
  sum_but a zero i from below same = absurd (omega (arith, from, below))
  sum_but a (suc n) i from below same = search (rules, cases_eq a i, sum_by, range_with_len, sum_same, sum_by-cons, sum_but (a + 1) n i)

module _ (f : ℕ → ℕ) where
  sum_small : (a n : ℕ) → ((i : ℕ) → f i ≤ 1) → sum_by f (range_with_len a n) ≤ n
  sum_small a zero small = omega arith
  sum_small a (suc n) small = omega (arith, small a, sum_small (a + 1) n small, sum_by-cons f a (range_with_len (a + 1) n))

  -- one of them is part of the sum
  sum_has : (a n i : ℕ) → a ≤ i → i < a + n → f i ≤ sum_by f (range_with_len a n)
  sum_has a zero i from below = absurd (omega (arith, from, below))
  sum_has a (suc n) i from below = search (rules, cases_eq a i, sum_by-cons, sum_has (a + 1) n i)

  -- where there is a sum, one is counted
  sum_where : (a n : ℕ) → 0 < sum_by f (range_with_len a n) → (i : ℕ) × (a ≤ i) × (i < a + n) × (0 < f i)
  sum_where a zero some = absurd (omega (arith, some))
  sum_where a (suc n) some = search (rules, cases_lt 0 (f a), sum_by-cons, range_with_len, sum_where (a + 1) n)

-- ---- what is kept of endpoints

pub one_at_most : (k : KeptCommand) → kept_count k ≤ 1
one_at_most k = search (rules, is_some)

counted : (k : KeptCommand) → 0 < kept_count k → is_some k.command ≡ true
counted k some = search (rules, is_some)

module _ (kept : List KeptCommand) (s : ℕ) where
  pub few_counted : endpoint_count kept s ≤ 31
  unfolding endpoint_count
  few_counted = sum_small (λ i. kept_count (kept_at kept s i)) 1 31 (λ i. one_at_most (kept_at kept s i))

  pub count_has : (i : ℕ) → 0 < i → i < 32 → kept_count (kept_at kept s i) ≤ endpoint_count kept s
  unfolding endpoint_count
  count_has i some below = sum_has (λ i. kept_count (kept_at kept s i)) 1 31 i (omega (arith, some)) (omega (arith, below))

  -- one is counted: it is kept
  pub count_where : 0 < endpoint_count kept s → (i : ℕ) × (0 < i) × (is_some (kept_at kept s i).command ≡ true)
  unfolding endpoint_count
  count_where some = search (rules, counted, sum_where (λ i. kept_count (kept_at kept s i)) 1 31 some)

  -- none is counted: nothing is kept
  pub count_none : endpoint_count kept s ≡ 0 → (i : ℕ) → 0 < i → i < 32 → is_some (kept_at kept s i).command ≡ false
  count_none none i some below = grind (arith, none, count_has i some below, is_some, kept_count)

-- at first none is
pub count_first : (s : ℕ) → endpoint_count (replicate (256 * 32) no_command) s ≡ 0
unfolding endpoint_count
count_first s = search (rules, alike)

-- ---- one is kept otherwise

module _ (kept : List KeptCommand) (many : length kept ≡ 256 * 32) (t j : ℕ) (slot : t < 256) (index : j < 32) (x : KeptCommand) where
  abbrev now : List KeptCommand
  now = slice_set kept (t * 32 + j) x

  pub kept_now : (s i : ℕ) → kept_at now s i ≡ (if s == t && j == i then x else kept_at kept s i)
  kept_now s i = search (rules, lt-ltb, slice_index_or, no_command, set_at, eq-eqb, and_left, le-ltb, and_right, ne_eqb)

  -- of another slot
  count_apart : (s : ℕ) → s ≢ t → endpoint_count now s ≡ endpoint_count kept s
  unfolding endpoint_count
  count_apart s other = search (rules, kept_count, kept_at, kept_now, and_left, ne_eqb)

  -- of this one
  count_here : 0 < j → endpoint_count now t + kept_count (kept_at kept t j) ≡ endpoint_count kept t + kept_count x
  unfolding endpoint_count
  count_here some =
      sum_but (λ i. kept_count (kept_at kept t i)) (λ i. kept_count (kept_at now t i)) 1 31 j (omega (arith, some)) (omega (arith, index))
      (λ i other. sym (ap kept_count (kept_now t i ∙ ap (λ b. if b then x else kept_at kept t i) (and_right (t == t) (j == i) (ne_eqb j i (λ e. other (sym e)))))))
      ∙ ap (λ k. endpoint_count kept t + kept_count k) (kept_now t j ∙ (λ n. if eq-eqb t t refl n && eq-eqb j j refl n then x else kept_at kept t j))

  -- counts that are right stay so
  pub counts_now : 0 < j → (counts : List ℕ) → length counts ≡ 256 → ((s : ℕ) → s < 256 → slice_index_or counts s 0 ≡ endpoint_count kept s) →
      (s : ℕ) → s < 256 → slice_index_or (slice_set counts t (slice_index_or counts t 0 - kept_count (kept_at kept t j) + kept_count x)) s 0 ≡ endpoint_count now s
  counts_now some counts all right s below = search (rules, slice_index_or, endpoint_count, slice_set, kept_count, kept_at, get_or-set_same, count_here, count_has, get_or-set_other, count_apart)

-- ---- what is read

pub read_kept : (kept : List KeptCommand) (t j n m : ℕ) (x : KeptCommand) → length kept ≡ 256 * 32 → t < 256 → j < 32 → n ≡ t → m ≡ j →
    x ≡ slice_index_or kept (n * 32 + m) x → x ≡ kept_at kept t j
read_kept kept t j n m x many slot index here there is = search (rules, slice_index_or, get_or_default, no_command, lt-ltb)

pub read_count : (counts : List ℕ) (t n x : ℕ) → length counts ≡ 256 → t < 256 → n ≡ t → x ≡ slice_index_or counts n x → x ≡ slice_index_or counts t 0
read_count counts t n x many slot here is = is ∙ ap (λ i. slice_index_or counts i x) here ∙ get_or_default counts t x 0 (omega (arith, many, slot))

-- what is written: where numbers are read as often as they are used
pub counts_set : (kept : List KeptCommand) (counts : List ℕ) (t j n m p v : ℕ) (x : KeptCommand) → length kept ≡ 256 * 32 → length counts ≡ 256 → t < 256 → 0 < j → j < 32 →
    n ≡ t → m ≡ j → p ≡ t → v ≡ slice_index_or counts t 0 - kept_count (kept_at kept t j) + kept_count x → ((s : ℕ) → s < 256 → slice_index_or counts s 0 ≡ endpoint_count kept s) →
    (s : ℕ) → s < 256 → slice_index_or (slice_set counts p v) s 0 ≡ endpoint_count (slice_set kept (n * 32 + m) x) s
counts_set kept counts t j n m p v x many all slot some index first second third value right s below = grind (arith, slice_index_or, slice_set, counts_now, endpoint_count)
