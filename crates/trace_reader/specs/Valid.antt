-- Which traces have a text: the limits, the shapes and the IDs that reading keeps
use Rattle.std.specs.Prelude.{◌≡◌, ◌+◌, ◌≤◌, Bool, [], true, false, length}
use Rattle.traces.specs.AllowedHeaders.{AreUnmoved, IsHeader}
use Rattle.traces.specs.Limits.{most_lines_of}
use Rattle.traces.specs.TraceRows.{AreRowsOf, begins_with_ring, have_new_ids}
use Rattle.trace_reader.specs.TraceOfText.{TraceText}

-- of one whose rows are all kept or not, by which it may have more lines
pub record IsTrace (keeps : Bool) (trace : TraceText) : Type 0 where
  pub headed : IsHeader trace.header
  pub unmoved : AreUnmoved trace.header.rings
  pub rows : AreRowsOf trace.header.version trace.rows
  -- a ring right behind the header's is the header's
  pub begins : begins_with_ring trace.rows ≡ false
  pub new_ids : have_new_ids trace.header.rings [] trace.rows ≡ true
  pub first : trace.first ≡ length trace.header.rings + 3
  pub within : trace.first + length trace.rows ≤ most_lines_of keeps trace.header.version + 1
