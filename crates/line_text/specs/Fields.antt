-- The fields of a line
use Rattle.std.specs.Prelude.{ℕ, ◌==◌, Bool, true, false, List, [], ◌∷◌, Option, Some, None}
use Rattle.std.specs.Borrow.{Bor}
use Rattle.std.specs.List.{slice_split, list_any}

abbrev pub is_space : ℕ → Bool
is_space byte = byte == 32

-- what stands between single spaces
unfoldable pub fields_of : List ℕ → List (List ℕ)
fields_of content = slice_split is_space content

-- the fields of what is still to be read of a line
abbrev pub fields_in : Option (Bor (List ℕ)) → List (List ℕ)
fields_in None = []
fields_in (Some rest) = fields_of rest.now

abbrev pub is_empty : List ℕ → Bool
is_empty [] = true
is_empty (byte ∷ rest) = false

-- two spaces stand together, or one at an end, or nothing stands there
abbrev pub has_empty_field : List (List ℕ) → Bool
has_empty_field fields = list_any is_empty fields
