-- The row of a text's first line
use Rattle.std.specs.Prelude.{◌≡◌, ◌+◌, ◌≤◌, ℕ, All, true, false, List, [], ◌∷◌, ◌++◌, length, slice_index, take, drop, Some, Ok}
use Rattle.line_text.specs.Lines.{is_line_feed}
use Rattle.traces.specs.declared.row.Row.{Row}
use Rattle.trb.specs.declared.block.Block.{Block}
use Rattle.trace_reader.specs.Reading.{State, behind_row, most_of, next_number, read_line}
use Rattle.trace_reader.specs.Values.{block_of}

-- the text's first line takes so many bytes with the line feed that ends it, and says that the driver did this wherever it stands behind the header and
-- within the limit of lines
abbrev pub BeginsWithRow : Row → ℕ → List ℕ → Type 0
BeginsWithRow row count text =
    (content : List ℕ) × (rest : List ℕ) × (text ≡ content ++ 10 ∷ rest) × (length content + 1 ≡ count) × All (λ byte. is_line_feed byte ≡ false) content
    × ((st : State) → 2 ≤ st.lines → next_number st ≤ most_of st →
    read_line st (record { content = content; is_ended = true }) ≡ Ok (behind_row st row, Some row))

-- the first 36 bytes are the words of this block, each behind a space
pub record BeginsWithBlock (block : Block) (text : List ℕ) : Type 0 where
  pub long : 36 ≤ length text
  pub s0 : slice_index text 0 ≡ 32
  pub s9 : slice_index text 9 ≡ 32
  pub s18 : slice_index text 18 ≡ 32
  pub s27 : slice_index text 27 ≡ 32
  pub says : block_of (take 8 (drop 1 text)) (take 8 (drop 10 text)) (take 8 (drop 19 text)) (take 8 (drop 28 text)) ≡ Some block

-- the words of these blocks, one behind the other, and nothing else
abbrev pub AreBlocks : List Block → List ℕ → Type 0
AreBlocks [] text = text ≡ []
AreBlocks (block ∷ blocks) text = BeginsWithBlock block text × AreBlocks blocks (drop 36 text)
