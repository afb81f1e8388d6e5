-- A descriptor that is withdrawn, and what is free that is restored: what the rules keep of a ring stays
use Rattle.segments.proofs.UpperLaws.{add-zero, unwrap_or, is_not_whole, ◌%◌, ◌≡◌, ◌+◌, ◌<◌, ◌≤◌, ◌⊎◌, ◌==◌, ◌&&◌, ◌∷◌, ◌++◌, ◌∙◌, ℕ, suc, zero, not, true, false, List, [], All, length, sum, replicate, Some, slice_get, arith, refl, sym, ap, subst, inr, eq-eqb, ne_eqb, eqb-true, cases_Bool, cases_eq, cond-true, cond-false, and_parts, or_cases, or_left, or_right, or_parts, false≢true, not-false, All-cons, All-head, All-tail, sum_by-cons, Block, block_at, kind, with_cycle, is_link, no_op, no_ops, split_at, Shape, is_in, address_of, cycle_of, IsShape, RingView, Withdraws, Restores, changed, floor_number, is_step_given, is_way_given, given_count, ceiling, descriptor_length, is_border, length_from, is_declared_as, is_not_restored, unrestored, RingKeeps, MayHold, MayWithdraw, MayRestore, rules, due_from, unrestored_position, none_passes_at, given_count_same, whole_is, whole_from, same_words_is, kept_cycle, None}
use Rattle.segments.proofs.GivenBorder.{length_is}

-- ---- the queue

pub length-no_ops : (xs : List Block) (p n : ℕ) → length (no_ops xs p n) ≡ length xs
unfolding no_ops
length-no_ops [] p n = refl
length-no_ops (b ∷ rest) zero n = search (rules, length-no_ops rest zero)
length-no_ops (b ∷ rest) (suc p) n = ap suc (length-no_ops rest p n)

-- what holds of a No Op and of each block holds of each block then
no_ops_each : (P : Block → Type 0) → P no_op → (xs : List Block) (p n q : ℕ) (d : Block) → ((q : ℕ) (d : Block) → slice_get xs q ≡ Some d → P d) →
    slice_get (no_ops xs p n) q ≡ Some d → P d
unfolding no_ops
no_ops_each P new [] p n q d each at = each q d at
no_ops_each P new (b ∷ rest) zero zero q d each at = each q d at
no_ops_each P new (b ∷ rest) zero (suc n) zero d each at = subst P (cc) new
no_ops_each P new (b ∷ rest) zero (suc n) (suc q) d each at = no_ops_each P new rest zero n q d (λ r e found. each (suc r) e found) at
no_ops_each P new (b ∷ rest) (suc p) n zero d each at = each zero d at
no_ops_each P new (b ∷ rest) (suc p) n (suc q) d each at = no_ops_each P new rest p n q d (λ r e found. each (suc r) e found) at

-- elsewhere the queue is the same
no_ops_elsewhere : (xs : List Block) (p n q : ℕ) → (q < p) ⊎ (p + n ≤ q) → slice_get (no_ops xs p n) q ≡ slice_get xs q
unfolding no_ops
no_ops_elsewhere [] p n q out = refl
no_ops_elsewhere (b ∷ rest) zero zero q out = refl
no_ops_elsewhere (b ∷ rest) zero (suc n) q out = search (rules, no_ops_elsewhere rest zero n)
no_ops_elsewhere (b ∷ rest) (suc p) n q out = search (rules, no_ops_elsewhere rest p n)

-- ---- the descriptors

ones_sum : (n : ℕ) (rest : List ℕ) → sum (replicate n 1 ++ rest) ≡ n + sum rest
ones_sum zero rest = omega arith
ones_sum (suc n) rest = omega (arith, sum_by-cons (λ x. x) 1 (replicate n 1 ++ rest), ones_sum n rest)

ones_all : (n : ℕ) (rest : List ℕ) → All (λ m. 0 < m) rest → All (λ m. 0 < m) (replicate n 1 ++ rest)
ones_all zero rest all = all
ones_all (suc n) rest all = All-cons (λ m. 0 < m) 1 (replicate n 1 ++ rest) (omega arith) (ones_all n rest all)

pub split_sum : (lengths : List ℕ) (start p : ℕ) → sum (split_at lengths start p) ≡ sum lengths
unfolding split_at
split_sum [] start p = refl
split_sum (n ∷ rest) start p = search (rules, cases_Bool (start == p), ones_sum, sum_by-cons (λ x. x), split_sum rest (start + n) p)

pub split_all : (lengths : List ℕ) (start p : ℕ) → All (λ m. 0 < m) lengths → All (λ m. 0 < m) (split_at lengths start p)
unfolding split_at
split_all [] start p all = all
split_all (n ∷ rest) start p all =
    search (rules, cases_Bool (start == p), ones_all n rest (All-tail (λ m. 0 < m) n rest all), All-cons (λ m. 0 < m) n (split_at rest (start + n) p), All-head (λ m. 0 < m) n rest all, split_all rest (start + n) p (All-tail (λ m. 0 < m) n rest all))

one_on : (a b : ℕ) → a + 1 + b ≡ a + suc b
one_on a b = omega arith

-- behind descriptors of one block those that follow begin where they did
ones_border : (n : ℕ) (rest : List ℕ) (start q : ℕ) → is_border rest (start + n) q ≡ true → is_border (replicate n 1 ++ rest) start q ≡ true
unfolding is_border
ones_border zero rest start q border = ap (λ s. is_border rest s q) (sym (add-zero start)) ∙ border
ones_border (suc n) rest start q border = search (rules, or_right, ones_border n rest (start + 1) q (rw (one_on start n) border))

ones_start : (n : ℕ) (rest : List ℕ) (start q : ℕ) → start ≡ q → is_border (replicate n 1 ++ rest) start q ≡ true
unfolding is_border
ones_start zero [] start q here = eq-eqb start q here
ones_start n rest start q here = search (rules, or_left, eq-eqb start q here)

-- a border stays one
pub split_border : (lengths : List ℕ) (start p q : ℕ) → is_border lengths start q ≡ true → is_border (split_at lengths start p) start q ≡ true
unfolding split_at is_border
split_border [] start p q border = border
split_border (n ∷ rest) start p q border =
    search (rules, cases_Bool (start == p), or_cases (start == q) (is_border rest (start + n) q) border, ones_start n rest start q, ones_border n rest start q, eqb-true start q, or_left, or_right, split_border rest (start + n) p q)

-- no length is added but 1
ones_first : (n : ℕ) (rest : List ℕ) (start q : ℕ) → 0 < n → start ≡ q → length_from (replicate n 1 ++ rest) start q ≡ 1
unfolding length_from
ones_first n rest start q h5 h6 = search (rules, cond-true, replicate, eq-eqb)

ones_length : (n : ℕ) (rest : List ℕ) (start q : ℕ) →
    (length_from (replicate n 1 ++ rest) start q ≡ 1) ⊎ (length_from (replicate n 1 ++ rest) start q ≡ length_from rest (start + n) q)
unfolding length_from
ones_length zero rest start q = inr (ap (λ s. length_from rest s q) (sym (add-zero start)))
ones_length (suc n) rest start q = search (rules, cases_eq, cond-false, length_from, replicate, ne_eqb, one_on, ones_length n rest (start + 1) q)

-- a descriptor has the blocks that it had, or one
pub split_length : (lengths : List ℕ) (start p q : ℕ) → All (λ m. 0 < m) lengths →
    (length_from (split_at lengths start p) start q ≤ 1) ⊎ (length_from (split_at lengths start p) start q ≡ length_from lengths start q)
unfolding split_at length_from
split_length [] start p q all = inr refl
split_length (n ∷ rest) start p q all = search (rules, cases_Bool, cond-true, replicate, cases_eq, ones_first, All-head, ones_length, cond-false, ne_eqb, eq-eqb, All-tail, split_length rest (start + n) p q (All-tail (λ m. 0 < m) n rest all))

-- ---- one ring

module _ (shape : Shape) (is : IsShape shape) (memory : ℕ → ℕ) (v : RingView) (k : RingKeeps shape memory v) where
  module _ (p : ℕ) where
    abbrev count : ℕ
    count = length_from v.lengths 0 p

    abbrev after_it : RingView
    after_it = changed shape v (Withdraws p)

    steps_kept : (q : ℕ) → is_step_given shape v q ≡ is_step_given shape after_it q
    unfolding is_step_given is_way_given
    steps_kept q = refl

    count_kept : given_count shape v ≡ given_count shape after_it
    count_kept = given_count_same shape v after_it refl steps_kept

    ceiling_kept : ceiling shape v ≡ ceiling shape after_it
    unfolding ceiling
    ceiling_kept = ap (λ n. unwrap_or v.held n) count_kept

    kept_by : (q : ℕ) (d : Block) → floor_number v ≤ q → v.given q ≡ true → after_it.free q ≡ false → slice_get after_it.queue q ≡ Some d →
        block_at memory (address_of shape q) ≡ with_cycle d (cycle_of shape q)
    kept_by q d low given kept at =
        let parts = or_parts (v.free q) (is_in q p count && v.given q) kept in
        let out : (q < p) ⊎ (p + count ≤ q) = search (rules, is_in) in
        k.kept q d low given parts.0 (sym (no_ops_elsewhere v.queue p count q out) ∙ at)

    shows_by : (q : ℕ) → floor_number v ≤ q → q < ceiling shape after_it → after_it.free q ≡ true → memory (address_of shape q + 12) % 2 ≡ cycle_of shape q
    shows_by q low high free = search (rules, after_it, ceiling_kept, or_cases, false≢true, kept_cycle, and_parts)

    whole_by : (q : ℕ) → v.given q ≡ true → is_not_whole shape after_it q ≡ false
    whole_by q given =
        whole_from shape after_it q (λ r low high. search (rules, split_length v.lengths 0 p q k.lengths, length_is after_it q, length_is v q, steps_kept r, whole_is shape v q (k.whole q given) r low))

    -- where none of its blocks is left as declared, the ring is held
    pub withdraws_keeps : MayWithdraw v → RingKeeps shape memory (changed shape v (Withdraws p))
    withdraws_keeps may =
        let same = length-no_ops v.queue p count in
        let declared_by : (q : ℕ) → v.given q ≡ true → q < length (no_ops v.queue p count) = λ q given. omega (arith, same, k.given_declared q given) in
        let held_by : (m : ℕ) → v.held ≡ Some m → MayHold shape after_it m = λ m at. record { from = (k.held m at).from; to = omega (arith, (k.held m at).to, count_kept) } in
        let free_by : (q : ℕ) → after_it.free q ≡ true → v.given q ≡ true = λ q free. search (rules, or_cases (v.free q) (is_in q p count && v.given q) free, k.free_given q, and_parts) in
        let open_by : v.held ≡ None → (q : ℕ) → after_it.free q ≡ false = λ none. absurd (may none) in
        search (rules, k, same, declared_by, kept_by, whole_by, split_all v.lengths 0 p k.lengths, split_sum v.lengths 0 p, no_ops_each (λ b. is_link (kind b) ≡ false) refl v.queue p count, held_by, free_by, shows_by, open_by)

  -- ---- restored

  module _ (may : MayRestore shape memory v) where
    abbrev restored : RingView
    restored = changed shape v Restores

    stands_again : (p : ℕ) (d : Block) → floor_number v ≤ p → v.given p ≡ true → v.free p ≡ true → slice_get v.queue p ≡ Some d →
        block_at memory (address_of shape p) ≡ with_cycle d (cycle_of shape p)
    unfolding is_not_restored is_declared_as
    stands_again p d low given free at =
        let test = λ (p : ℕ). not (is_declared_as (block_at memory (address_of shape p)) (cycle_of shape p) (slice_get v.queue p)) in
        let fails : test p ≡ false = none_passes_at test (unrestored shape v) p may (unrestored_position shape v p (due_from shape v.floor p low (k.given_within p given)) free) in
        search (rules, same_words_is, address_of, cycle_of, is_declared_as, block_at, not-false, slice_get)

    steps_stay : (q : ℕ) → is_step_given shape v q ≡ is_step_given shape restored q
    unfolding is_step_given is_way_given
    steps_stay q = refl

    whole_still : (q : ℕ) → v.given q ≡ true → is_not_whole shape restored q ≡ false
    unfolding is_not_whole is_step_given is_way_given descriptor_length
    whole_still q given = k.whole q given

    pub restores_keeps : RingKeeps shape memory (changed shape v Restores)
    restores_keeps = search (rules, cases_Bool, stands_again, whole_still, MayHold, given_count_same, steps_stay, false≢true)
