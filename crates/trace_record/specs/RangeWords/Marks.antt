-- The bits of groups of 64 words, and which pages of 16 groups may have soiled words
use Rattle.std.specs.Prelude.{◌≡◌, ℕ, ◌+◌, ◌-◌, ◌/◌, ◌%◌, ◌^◌, if◌then◌else◌, nat_lt, Bool, List, false, slice_index_or}
use Rattle.std.specs.Int.{bit_at}
use Rattle.trace_record.specs.declared.range_words.bits.Bits.{Bits}
use Rattle.trace_record.specs.RangeWords.Bits.{bits_of}

-- a group is whole, by the bits of blocks of 64 groups
abbrev pub is_whole : (ℕ → ℕ) → ℕ → Bool
is_whole whole g = nat_lt 0 (bit_at (whole (g / 64)) (g % 64))

-- the bits of a group of 64 words: all are 1 where it is whole
unfoldable pub bits_in : (ℕ → ℕ) → (ℕ → ℕ) → ℕ → ℕ
bits_in groups whole g = if is_whole whole g then 2 ^ 64 - 1 else groups g

-- where the mark of a page stands
abbrev pub mark_of : ℕ → ℕ
mark_of page = (page % 1024 + page / 1024) % 1024

-- the page of a group is marked
abbrev pub is_page_marked : List Bool → ℕ → Bool
is_page_marked marks g = slice_index_or marks (mark_of (g / 16)) false

-- a group with a soiled word is of a page that is marked
abbrev pub AreMarked : Bits → Bits → List Bool → Type 0
AreMarked groups whole marks = (g : ℕ) → is_page_marked marks g ≡ false → bits_in (bits_of groups) (bits_of whole) g ≡ 0
