-- What is held of areas of memory, and of soiled words
use Rattle.std.specs.Prelude.{◌≡◌, ℕ, ◌/◌, ◌%◌, nat_lt, Bool, List}
use Rattle.std.specs.Int.{bit_at}
use Rattle.std.specs.List.Sorted.{IsNonDecreasingBy, IsPermutation}
use Rattle.trace_record.specs.RangeWords.Bits.{bits_of}
use Rattle.trace_record.specs.RangeWords.Marks.{bits_in}
use Rattle.trace_record.specs.declared.range_words.areas.Areas.{Areas}
use Rattle.trace_record.specs.declared.range_words.soiled.SoiledWords.{SoiledWords}

-- the areas are those of n bytes that start at these addresses
pub record HoldsAreas (n : ℕ) (starts : List ℕ) (a : Areas) : Type 0 where
  pub bytes : a.bytes ≡ n
  pub all : IsPermutation starts a.starts.items
  pub sorted : IsNonDecreasingBy (λ s. s) a.starts.items

-- the bits of a group of 64 words
abbrev pub group_bits : SoiledWords → ℕ → ℕ
group_bits s g = bits_in (bits_of s.groups) (bits_of s.whole) g

-- among the bits of groups, that of the word at an address is 1
abbrev pub is_marked : (ℕ → ℕ) → ℕ → Bool
is_marked bits a = nat_lt 0 (bit_at (bits (a / 256)) (a / 4 % 64))

-- of each word it is held whether it is soiled
pub record HoldsSoiled (soiled : ℕ → Bool) (s : SoiledWords) : Type 0 where
  pub each : (a : ℕ) → a % 4 ≡ 0 → soiled a ≡ is_marked (group_bits s) a
