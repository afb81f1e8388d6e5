-- The lines of a text
use Rattle.std.specs.Prelude.{ℕ, ◌==◌, Bool, true, false, List, [], ◌∷◌}
use Rattle.std.specs.List.{slice_split}

-- a line without its line feed
pub record TextLine : Type 0 where
  pub content : List ℕ
  -- a line feed ends it
  pub is_ended : Bool

abbrev pub is_line_feed : ℕ → Bool
is_line_feed byte = byte == 10

-- what stands behind the bytes of a text's first line: the line feed that ends it and the text that is left, or nothing
abbrev pub behind_content : Bool → List ℕ → List ℕ
behind_content true rest = 10 ∷ rest
behind_content false rest = []

-- what stands behind the last line feed is a line too, where it isn't empty
abbrev pub last_line : List ℕ → List TextLine
last_line [] = []
last_line (byte ∷ rest) = record { content = byte ∷ rest; is_ended = false } ∷ []

-- the pieces of a text that line feeds cut, as lines: a line feed ends each piece but the last
abbrev pub lines_between : List (List ℕ) → List TextLine
lines_between [] = []
lines_between (piece ∷ []) = last_line piece
lines_between (piece ∷ next ∷ rest) = record { content = piece; is_ended = true } ∷ lines_between (next ∷ rest)

unfoldable pub lines_of : List ℕ → List TextLine
lines_of text = lines_between (slice_split is_line_feed text)
