-- Bits of a word
use Rattle.std.specs.Prelude.{ℕ, ◌/◌, ◌%◌, ◌^◌, ◌==◌, Bool}

-- count bits of n, from bit low on
abbrev pub bits : ℕ → ℕ → ℕ → ℕ
bits n low count = n / 2 ^ low % 2 ^ count

abbrev pub is_set : ℕ → ℕ → Bool
is_set n bit = bits n bit 1 == 1
