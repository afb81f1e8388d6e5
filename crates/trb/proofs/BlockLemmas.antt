-- A block with another Cycle bit has all else as it was
use Rattle.trb.proofs.Words.{◌≡◌, ◌+◌, ◌/◌, ◌%◌, ◌^◌, ◌<◌, ◌∙◌, ◌==◌, ℕ, arith, sym, ap, shr-shr, Block, bits, is_set, kind_numbered, word, cycle, type_number, kind, slot, endpoint, with_cycle}

-- two words that differ in their lowest bit at most have the same fields above it
pub bits-above_lowest : (m n low count : ℕ) → m / 2 ≡ n / 2 → bits m (1 + low) count ≡ bits n (1 + low) count
bits-above_lowest m n low count same =
    ap (λ k. k % 2 ^ count) (sym (shr-shr m 1 low) ∙ ap (λ k. k / 2 ^ low) same ∙ shr-shr n 1 low)

module _ (b : Block) (c : ℕ) (is_bit : c < 2) where
  pub cycle-with_cycle : cycle (with_cycle b c) ≡ c
  cycle-with_cycle = omega arith

  -- bits 31:1 of word 3 stay
  pub with_cycle-above_lowest : word (with_cycle b c) 3 / 2 ≡ word b 3 / 2
  with_cycle-above_lowest = omega arith

  pub bits-with_cycle : (low count : ℕ) → bits (word (with_cycle b c) 3) (1 + low) count ≡ bits (word b 3) (1 + low) count
  bits-with_cycle low count = bits-above_lowest (word (with_cycle b c) 3) (word b 3) low count with_cycle-above_lowest

  pub type_number-with_cycle : type_number (with_cycle b c) ≡ type_number b
  type_number-with_cycle = bits-with_cycle 9 6

  pub kind-with_cycle : kind (with_cycle b c) ≡ kind b
  kind-with_cycle = ap kind_numbered type_number-with_cycle

  pub is_set-with_cycle : (n : ℕ) → is_set (word (with_cycle b c) 3) (1 + n) ≡ is_set (word b 3) (1 + n)
  is_set-with_cycle n = ap (λ k. k == 1) (bits-with_cycle n 1)

  pub slot-with_cycle : slot (with_cycle b c) ≡ slot b
  slot-with_cycle = bits-with_cycle 23 8

  pub endpoint-with_cycle : endpoint (with_cycle b c) ≡ endpoint b
  endpoint-with_cycle = bits-with_cycle 15 5
