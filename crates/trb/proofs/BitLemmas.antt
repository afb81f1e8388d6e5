-- Masks and single bits of a word
use Rattle.trb.proofs.Words.{rules, ◌≡◌, ◌+◌, ◌-◌, ◌*◌, ◌/◌, ◌%◌, ◌^◌, ◌<◌, if◌then◌else◌, ℕ, Bool, true, false, bit_and, bit_or, arith, lit<, from_bool, one_shl, and_mask, or_shifted, and_high_mask, bits}

-- a shift and a mask give a field
pub bits-by_mask : (word low count : ℕ) → count < 32 → bit_and (word / 2 ^ low) (1 * 2 ^ count % 2 ^ 32 - 1) ≡ bits word low count
bits-by_mask word low count within = rw (one_shl count 32 within) (and_mask (word / 2 ^ low) count)

lowest_bit : (word c : ℕ) → word < 2 ^ 32 → c < 2 → bit_or (bit_and word (2 ^ 32 - 2)) c ≡ word - bits word 0 1 + c
lowest_bit word c fits bit = search (rules, bit_and, and_high_mask, bit_or, or_shifted, and_high_mask 32 1 (omega arith) word fits, or_shifted (word / 2) 1 c bit)

-- a mask and a bit give a word with another lowest bit
pub lowest_bit-by_mask :
    (word : ℕ) (bit : Bool) → word < 2 ^ 32
    → bit_or (bit_and word (2 ^ 32 - 2)) (from_bool bit) ≡ word - bits word 0 1 + (if bit then 1 else 0)
lowest_bit-by_mask word true fits = lowest_bit word 1 fits (lit< tt)
lowest_bit-by_mask word false fits = lowest_bit word 0 fits (lit< tt)
