-- The free positions of a ring that a record follows, as its set has them
use Rattle.ring_knowledge.proofs.MiddleLaws.{rules, slice_get, block_at, BTreeSet, IsOrdered, AllByRecursion, Less, nat_cmp_total, IsStrictlySortedBy-filter, btree_set_from_contains, exact_unsigned, any-filter_same, ◌-◌, ◌≤◌, leb-true, ◌≡◌, ◌≢◌, ◌+◌, ◌<◌, ◌∷◌, ◌∙◌, ◌&&◌, ◌||◌, ℕ, suc, zero, List, [], Bool, true, false, refl, ap, sym, arith, length, filter, not, nat_le, nat_lt, cases_lt, cases_eq, cases_Bool, false≢true, nat_tests, list_any, range_with_len, contains, is_at, nat_cmp, Shape, place_count, RingView, floor_number, unrestored, due_positions, is_not_restored, is_declared_as, address_of, cycle_of, ◌++◌, common_steps, FollowsMarks, RingRecord, noted_past, get_kept, any_filtered, any_same}
use Rattle.std.specs.List.Sorted.{IsStrictlySortedBy}

-- ---- one number of a set

pub at_is : (p q : ℕ) → is_at (nat_cmp p) q ≡ true → p ≡ q
at_is p q h = grind (arith, nat_tests, h)

pub at_same : (p : ℕ) → is_at (nat_cmp p) p ≡ true
at_same p = grind (arith, nat_tests)

-- a set that isn't empty has a number
pub some_in : (s : BTreeSet ℕ) → length s.keys ≢ 0 → (p : ℕ) × (contains nat_cmp s p ≡ true)
some_in s some = by s.keys some
  where
    by : (ks : List ℕ) → length ks ≢ 0 → (p : ℕ) × (list_any (is_at (nat_cmp p)) ks ≡ true)
    by [] some = absurd (some refl)
    by (k ∷ ks) some = (k, ap (λ b. b || list_any (is_at (nat_cmp k)) ks) (at_same k))

-- an empty one has none
pub none_in : (s : BTreeSet ℕ) → length s.keys ≡ 0 → (p : ℕ) → contains nat_cmp s p ≡ false
none_in s none p = grind (arith, common_steps, length, list_any, is_at, nat_cmp)

-- ---- runs of numbers

above : (k a n : ℕ) → k < a → AllByRecursion (λ y. nat_cmp k y ≡ Less) (range_with_len a n)
above k a zero h = tt
above k a (suc n) h = (grind (arith, nat_tests, h), above k (a + 1) n (omega arith))

run_sorted : (a n : ℕ) → IsStrictlySortedBy nat_cmp (range_with_len a n)
unfolding IsStrictlySortedBy
run_sorted a zero = tt
run_sorted a (suc n) = (above a (a + 1) n (omega arith), run_sorted (a + 1) n)

in_run : (a n q : ℕ) → list_any (is_at (nat_cmp q)) (range_with_len a n) ≡ (nat_le a q && nat_lt q (a + n))
in_run a zero q = grind (arith, nat_tests)
in_run a (suc n) q = search (rules, cases_eq, nat_tests, list_any, is_at, nat_cmp, range_with_len, in_run (a + 1) n q)

-- a filter keeps of a number what the test says of it
in_filter : (f : ℕ → Bool) (q : ℕ) (ks : List ℕ) → list_any (is_at (nat_cmp q)) (filter f ks) ≡ (f q && list_any (is_at (nat_cmp q)) ks)
in_filter f q ks = any-filter_same (is_at (nat_cmp q)) f (f q) (λ k at. ap f (sym (at_is q k at))) ks

module _ (shape : Shape) (v : RingView) (r : RingRecord) (follows : FollowsMarks shape v r) where
  within : (q : ℕ) → v.free q ≡ true → q < floor_number v + place_count shape
  within q free = search (rules, cases_lt, floor_number, place_count, false≢true, noted_past)

  -- in ascending order they are the numbers of the set from the floor on
  pub unrestored_is : IsOrdered nat_cmp r.free → unrestored shape v ≡ filter (nat_le (floor_number v)) r.free.keys
  unfolding unrestored due_positions
  unrestored_is ordered =
      btree_set_from_contains nat_cmp_total
      (record { keys = filter v.free (range_with_len (floor_number v) (place_count shape)) }) (record { keys = filter (nat_le (floor_number v)) r.free.keys })
      (IsStrictlySortedBy-filter nat_cmp v.free (range_with_len (floor_number v) (place_count shape)) (run_sorted (floor_number v) (place_count shape)))
      (IsStrictlySortedBy-filter nat_cmp (nat_le (floor_number v)) r.free.keys ordered)
      (λ q. in_filter v.free q (range_with_len (floor_number v) (place_count shape)) ∙ ap (λ b. v.free q && b) (in_run (floor_number v) (place_count shape) q) ∙ (search (rules, cases_Bool, within, nat_tests))
      ∙ sym (in_filter (nat_le (floor_number v)) q r.free.keys))
      exact_unsigned

  -- what is declared from the floor on is kept
  pub declared_kept : (p : ℕ) → floor_number v ≤ p → slice_get v.queue p ≡ slice_get r.blocks.items (p - r.forgotten)
  declared_kept p from = get_kept v.queue r.forgotten p (omega (arith, follows.passed, from)) ∙ ap (λ xs. slice_get xs (p - r.forgotten)) follows.queue

  -- what doesn't stand as declared is looked for among them
  pub not_restored_is : IsOrdered nat_cmp r.free → (memory : ℕ → ℕ) (floor : ℕ) → floor ≡ floor_number v → is_not_restored shape v memory
      ≡ list_any (λ p. nat_le floor p && not (is_declared_as (block_at memory (address_of shape p)) (cycle_of shape p) (slice_get r.blocks.items (p - r.forgotten)))) r.free.keys
  unfolding is_not_restored
  not_restored_is ordered memory floor same =
      ap (λ ps. list_any (λ p. not (is_declared_as (block_at memory (address_of shape p)) (cycle_of shape p) (slice_get v.queue p))) ps) (unrestored_is ordered)
      ∙ any_filtered (λ p. not (is_declared_as (block_at memory (address_of shape p)) (cycle_of shape p) (slice_get v.queue p))) (nat_le (floor_number v)) r.free.keys
      ∙ ap (λ n. list_any (λ p. nat_le n p && not (is_declared_as (block_at memory (address_of shape p)) (cycle_of shape p) (slice_get v.queue p))) r.free.keys) (sym same)
      ∙ any_same (λ p. nat_le floor p && not (is_declared_as (block_at memory (address_of shape p)) (cycle_of shape p) (slice_get v.queue p)))
      (λ p. nat_le floor p && not (is_declared_as (block_at memory (address_of shape p)) (cycle_of shape p) (slice_get r.blocks.items (p - r.forgotten)))) r.free.keys
      (λ p. from_floor (nat_le floor p) _ _ (λ late. ap (λ d. not (is_declared_as (block_at memory (address_of shape p)) (cycle_of shape p) d)) (declared_kept p (omega (arith, same, leb-true floor p late)))))
    where
      from_floor : (b x y : Bool) → (b ≡ true → x ≡ y) → (b && x) ≡ (b && y)
      from_floor true x y is = is refl
      from_floor false x y is = refl

-- one number of a list more
pub first_passes : (f : ℕ → Bool) (x : ℕ) (xs ys : List ℕ) → ys ≡ x ∷ xs → f x ≡ true → list_any f ys ≡ true
first_passes f x xs ys is passes = ap (list_any f) is ∙ ap (λ b. b || list_any f xs) passes

-- none is left
pub all_there : (xs ys zs all : List ℕ) → ys ≡ [] → (xs ++ ys) ≡ all → all ≡ zs → xs ≡ zs
all_there xs ys zs all none so_far is = grind (arith, common_steps, none, so_far, is)
