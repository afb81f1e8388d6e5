-- A set of flags contains a flag where that bit of its word is 1
use Rattle.trb.proofs.Words.{rules, ◌≡◌, ◌*◌, ◌^◌, ◌<◌, ◌==◌, ℕ, bit_and, arith, All, eqb-true, pow_pos, agree_below_at, nat_tests, get_or_default, and_assoc, and_pow, bit_at-lt, BlockFlags, is_set, flag_bits, all_flags, flag_places, has_flag}

-- a multiple that is the number itself is once the number
once : (x n : ℕ) → x < 2 → 0 < n → (x * n == n) ≡ (x == 1)
once x n h3 h4 = search (rules, nat_tests)

-- the bit that a mask of one bit tests
pub is_set-by_mask : (word place : ℕ) → (bit_and word (2 ^ place) == 2 ^ place) ≡ is_set word place
is_set-by_mask word place = grind (arith, and_pow, once, bit_at-lt, pow_pos)

module _ (flags : BlockFlags) (word : ℕ) (of_word : flag_bits flags ≡ bit_and word all_flags) where
  pub has_flag-is_set : (place : ℕ) → bit_and all_flags (2 ^ place) ≡ 2 ^ place → has_flag flags place ≡ is_set word place
  has_flag-is_set place is_flag = grind (arith, bit_and, and_assoc, is_set-by_mask)

  pub has_flag-at_places : All (λ place. has_flag flags place ≡ is_set word place) flag_places
  has_flag-at_places k d below = grind (arith, bit_and, agree_below_at, get_or_default, has_flag-is_set, eqb-true)
