-- The fields of a block (TRB): xHCI 4.11.1, 6.4
use Rattle.std.specs.Prelude.{◌≡◌, ◌<◌, length, if◌then◌else◌, ℕ, ◌+◌, ◌*◌, ◌-◌, ◌/◌, ◌^◌, ◌==◌, ◌&&◌, Bool, [], ◌∷◌, slice_index, Option, Some, None, false}
use Rattle.trb.specs.declared.block.Block.{Block}
use Rattle.trb.specs.declared.kind.BlockKind.{BlockKind}
use Rattle.trb.specs.Bits.{bits, is_set}
use Rattle.trb.specs.Kind.{is_event_data, kind_numbered}

-- one of the four words
abbrev pub word : Block → ℕ → ℕ
word b i = slice_index b.w i

-- the Cycle bit, word 3 bit 0
abbrev pub cycle : Block → ℕ
cycle b = bits (word b 3) 0 1

-- the TRB Type, word 3 bits 15:10
abbrev pub type_number : Block → ℕ
type_number b = bits (word b 3) 10 6

abbrev pub kind : Block → BlockKind
kind b = kind_numbered (type_number b)

-- the Chain bit (CH), word 3 bit 4: the descriptor goes on with the next block
abbrev pub is_chained : Block → Bool
is_chained b = is_set (word b 3) 4

-- words 1 and 0
abbrev pub pointer : Block → ℕ
pointer b = word b 0 + 2 ^ 32 * word b 1

-- Event Data (ED), word 3 bit 2 of a Transfer Event: its words 0 and 1 are the value of an Event Data block, and no address
abbrev pub has_event_data : Block → Bool
has_event_data b = is_set (word b 3) 2

-- the value of an Event Data block, words 0 and 1: xHCI 6.4.4.2
abbrev pub data_value : Block → Option ℕ
data_value b = if is_event_data (kind b) then Some (pointer b) else None

-- the value is this one
abbrev pub has_value : ℕ → Option ℕ → Bool
has_value v None = false
has_value v (Some o) = o == v

-- bits 63:4 of a pointer
abbrev pub aligned : ℕ → ℕ
aligned p = p / 16 * 16

-- the Completion Code of an event, word 2 bits 31:24
abbrev pub code : Block → ℕ
code b = bits (word b 2) 24 8

-- the Slot ID, word 3 bits 31:24
abbrev pub slot : Block → ℕ
slot b = bits (word b 3) 24 8

-- the Endpoint ID, word 3 bits 20:16
abbrev pub endpoint : Block → ℕ
endpoint b = bits (word b 3) 16 5

-- the block at an address of a memory
abbrev pub block_at : (ℕ → ℕ) → ℕ → Block
block_at memory a = record { w = memory a ∷ memory (a + 4) ∷ memory (a + 8) ∷ memory (a + 12) ∷ [] }

-- the block with Cycle bit c: bit 0 of word 3 alone is changed
abbrev pub with_cycle : Block → ℕ → Block
with_cycle b c = record { w = word b 0 ∷ word b 1 ∷ word b 2 ∷ (word b 3 - cycle b + c) ∷ [] }

-- the same four words
abbrev pub same_words : Block → Block → Bool
same_words a b = word a 0 == word b 0 && word a 1 == word b 1 && word a 2 == word b 2 && word a 3 == word b 3

-- four words of 32 bits
abbrev pub IsBlock : Block → Type 0
IsBlock b = (length b.w ≡ 4) × ((i : ℕ) → word b i < 2 ^ 32)
