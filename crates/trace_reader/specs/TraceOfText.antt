-- What a text of a trace says: its header, and its rows with the line of the first
use Rattle.std.specs.Prelude.{ℕ, List}
use Rattle.traces.specs.declared.header.Header.{Header}
use Rattle.traces.specs.declared.row.Row.{Row}

-- what a text of a trace says
pub record TraceText : Type 0 where
  pub header : Header
  -- the number of the first row's line
  pub first : ℕ
  pub rows : List Row
