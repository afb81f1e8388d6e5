-- What tables of indexes hold
use Rattle.std.specs.Prelude.{ℕ, slice_index, slice_get, Option, Some, None}
use Rattle.leases.specs.declared.book.indexes.Indexes.{Indexes}
use Rattle.leases.specs.declared.book.indexes.IndexTables.{IndexTables}

-- the index of a number; 0 where none was put
abbrev pub index_in : Indexes → ℕ → ℕ
index_in t number = slice_index t.indexes.items number

abbrev pub index_of : Option Indexes → ℕ → ℕ
index_of None number = 0
index_of (Some t) number = index_in t number

-- of a ring, by its ID
abbrev pub index_at : IndexTables → ℕ → ℕ → ℕ
index_at t ring number = index_of (slice_get t.rings.items ring) number
