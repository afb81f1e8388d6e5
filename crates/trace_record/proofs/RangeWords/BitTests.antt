-- Bits of a group of words
use Rattle.trace_record.proofs.BaseWords.{rules, ◌≡◌, ◌≢◌, ◌-◌, ◌*◌, ◌/◌, ◌%◌, ◌^◌, ◌<◌, ◌≤◌, ◌∙◌, ◌&&◌, ◌||◌, ℕ, true, false, arith, ap, sym, min, not, nat_eq, nat_le, nat_lt, nat_tests, bit_and, bit_not, bit_or, bit_at, w64, trailing_zeros, and_le_r, pow_below, and_pow, bit_at-lt, bit_at-pow_other, bit_at-pow_same, bit_at_and, bit_at_not, bit_at_or, bit_at-zero, bit_at-trailing_zeros, ones_shl, ones_shr, bit_at_mask_inside, bit_at_mask_below, bit_at_ones, bit_at_ones_above}

min_some : (x y : ℕ) → min x y ≡ 1 → (nat_lt 0 x ≡ true) × (nat_lt 0 y ≡ true)
min_some x y some = (grind (arith, nat_tests, some), grind (arith, nat_tests, some))

-- numbers that have no 1 in the same place
pub none_common : (b m i : ℕ) → bit_and b m ≡ 0 → nat_lt 0 (bit_at m i) ≡ true → nat_lt 0 (bit_at b i) ≡ false
none_common b m i none has = grind (arith, nat_tests, (sym (bit_at_and b m i) ∙ ap (λ x. bit_at x i) none ∙ bit_at-zero i), has)

-- a place at which two numbers have a 1
pub record Common (b m : ℕ) : Type 0 where
  pub index : ℕ
  pub within : index < 64
  pub both : (nat_lt 0 (bit_at b index) ≡ true) × (nat_lt 0 (bit_at m index) ≡ true)

pub some_common : (b m : ℕ) → m < 2 ^ 64 → bit_and b m ≢ 0 → Common b m
some_common b m fits some =
    let lowest = bit_at-trailing_zeros w64 (bit_and b m) (omega (arith, some)) (omega (arith, and_le_r b m, fits)) in
    grind (arith, trailing_zeros, w64, bit_and, min_some, bit_at, bit_at_and)

pub either_bit : (b m i : ℕ) → nat_lt 0 (bit_at (bit_or b m) i) ≡ (nat_lt 0 (bit_at b i) || nat_lt 0 (bit_at m i))
either_bit b m i = ap (nat_lt 0) (bit_at_or b m i) ∙ (grind (arith, nat_tests))

-- the ones from one place up to another
pub run_of_ones : (low high i : ℕ) → low < 64 → high ≤ 64 → i < 64 →
    nat_lt 0 (bit_at (bit_and ((2 ^ 64 - 1) * 2 ^ low % 2 ^ 64) ((2 ^ 64 - 1) / 2 ^ (64 - high))) i) ≡ (nat_le low i && nat_lt i high)
run_of_ones low high i starts ends within =
    ap (nat_lt 0) (bit_at_and _ _ i ∙ ap (λ x. min (bit_at x i) (bit_at ((2 ^ 64 - 1) / 2 ^ (64 - high)) i)) (ones_shl 64 low (omega arith))
    ∙ ap (λ x. min (bit_at (2 ^ 64 - 2 ^ low) i) (bit_at x i)) (ones_shr 64 (64 - high) (omega arith) ∙ ap (λ k. 2 ^ k - 1) whole))
    ∙ search (rules, decided, bit_at_mask_below, bit_at_mask_inside, bit_at_ones, bit_at_ones_above)
  where
    whole : 64 - (64 - high) ≡ high
    whole = omega arith

    decided : (x y : ℕ) → (i < low → x ≡ 0) → (low ≤ i → x ≡ 1) → (i < high → y ≡ 1) → (high ≤ i → y ≡ 0) → nat_lt 0 (min x y) ≡ (nat_le low i && nat_lt i high)
    decided x y below above inside behind = search (rules, nat_tests)

pub tested_bit : (b k : ℕ) → not (nat_eq (bit_and b (2 ^ k)) 0) ≡ nat_lt 0 (bit_at b k)
tested_bit b k = ap (λ x. not (nat_eq x 0)) (and_pow b k) ∙ (search (rules, nat_tests))

-- one bit is made 0
module _ (b k : ℕ) (within : k < 64) where
  others : (i : ℕ) → i < 64 → bit_at (bit_and b (bit_not w64 (2 ^ k))) i ≡ min (bit_at b i) (1 - bit_at (2 ^ k) i)
  others i low = bit_at_and b _ i ∙ ap (min (bit_at b i)) (bit_at_not w64 (2 ^ k) i (pow_below k 64 within) low)

  pub cleared_here : nat_lt 0 (bit_at (bit_and b (bit_not w64 (2 ^ k))) k) ≡ false
  cleared_here = search (rules, min, bit_at, nat_lt, others, bit_at-pow_same)

  pub cleared_other : (i : ℕ) → i < 64 → i ≢ k → nat_lt 0 (bit_at (bit_and b (bit_not w64 (2 ^ k))) i) ≡ nat_lt 0 (bit_at b i)
  cleared_other i low apart = search (rules, min, bit_at, bit_at-lt, nat_lt, others, bit_at-pow_other)
