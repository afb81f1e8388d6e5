-- What the number fields of a line say; None where one has another length or another character
use Rattle.std.specs.Prelude.{ℕ, ◌%◌, ◌^◌, ◌==◌, ◌&&◌, ◌||◌, List, [], ◌∷◌, length, nat_lt, slice_index, take, drop, Option, Some, None, if◌then◌else◌}
use Rattle.std.specs.Option.{option_map, option_and_then}
use Rattle.std.specs.Int.{w16, w32, w64}
use Rattle.line_text.specs.Numbers.{number_of}
use Rattle.trb.specs.declared.block.Block.{Block}
use Rattle.segments.specs.declared.segment.Segment.{Segment}
use Rattle.traces.specs.Register.{is_wide}
use Rattle.traces.specs.declared.register.Register.{Register}
use Rattle.traces.specs.declared.ring.Ring.{Ring}
use Rattle.traces.specs.declared.row.Row.{Row}

-- what a line behind the header says
pub data Said : Type 0 where
  SaysRow : (row : Row) → Said
  SaysRing : (ring : Ring) → Said

-- both, where both are there
abbrev pub both : {A B C : Type 0} → (A → B → C) → Option A → Option B → Option C
both f (Some a) (Some b) = Some (f a b)
both f (Some a) None = None
both f None b = None

abbrev pub cons : {A : Type 0} → Option A → Option (List A) → Option (List A)
cons x xs = both (λ a rest. a ∷ rest) x xs

-- the block of four words
unfoldable pub block_of : List ℕ → List ℕ → List ℕ → List ℕ → Option Block
block_of a b c d =
    option_map (λ words. record { w = words })
    (cons (number_of w32 a) (cons (number_of w32 b) (cons (number_of w32 c) (cons (number_of w32 d) (Some [])))))

-- the blocks of words, four for each
unfoldable pub blocks_of : List (List ℕ) → Option (List Block)
blocks_of [] = Some []
blocks_of (a ∷ b ∷ c ∷ d ∷ words) = cons (block_of a b c d) (blocks_of words)
blocks_of _ = None

-- the block of exactly four words
abbrev pub event_of : List (List ℕ) → Option Block
event_of (a ∷ b ∷ c ∷ d ∷ []) = block_of a b c d
event_of _ = None

-- an address of a word is a multiple of 4
unfoldable pub word_address_of : List ℕ → Option ℕ
word_address_of field = option_and_then (λ a. if a % 4 == 0 then Some a else None) (number_of w64 field)

-- the value of a register of 32 bits is below 2^32
unfoldable pub register_value_of : Register → List ℕ → Option ℕ
register_value_of r field = option_and_then (λ v. if is_wide r || nat_lt v (2 ^ 32) then Some v else None) (number_of w64 field)

-- a segment: its first address in 16 digits, a colon, and how many blocks it has in 4
unfoldable pub segment_of : List ℕ → Option Segment
segment_of field =
    if length field == 21 && slice_index field 16 == 58
    then both (λ base count. record { base = base; count = count }) (number_of w64 (take 16 field)) (number_of w16 (drop 17 field))
    else None

unfoldable pub segments_of : List (List ℕ) → Option (List Segment)
segments_of [] = Some []
segments_of (field ∷ fields) = cons (segment_of field) (segments_of fields)
