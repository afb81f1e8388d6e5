-- Which row of a trace an explanation points at
use Rattle.std.specs.Prelude.{ℕ, ◌==◌, Bool, false, Option, None, Some}
use Rattle.traces.specs.declared.row.Row.TheVariants.{Write}
use Rattle.traces.specs.declared.row.Row.{Row}

-- the row writes the word at this address
abbrev pub writes_word : ℕ → Row → Bool
writes_word address (Write at word) = at == address
writes_word address _ = false

-- a row that is there writes the word at this address
abbrev pub is_writer : ℕ → Option Row → Bool
is_writer address None = false
is_writer address (Some row) = writes_word address row
