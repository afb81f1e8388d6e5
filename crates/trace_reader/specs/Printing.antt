-- Fields as they are appended
use Rattle.std.specs.Prelude.{ℕ, List, [], ◌∷◌, ◌++◌}
use Rattle.std.specs.List.{flat_map}
use Rattle.trace_reader.specs.Spelling.{Field, printed}

-- each behind a space
abbrev pub spaced : List Field → List ℕ
spaced fields = flat_map (λ field. 32 ∷ printed field) fields

-- with a space between each two
abbrev pub in_a_row : List Field → List ℕ
in_a_row [] = []
in_a_row (field ∷ fields) = printed field ++ spaced fields
