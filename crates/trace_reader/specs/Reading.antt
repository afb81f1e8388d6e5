-- How a trace is read from its text, line by line
use Rattle.std.specs.Prelude.{ℕ, ◌+◌, ◌-◌, ◌==◌, ◌&&◌, ◌||◌, Bool, true, false, not, List, [], ◌∷◌, ◌++◌, length, nat_lt, Option, Some, None, Result, Ok, Err, codes, is_none, if◌then◌else◌}
use Rattle.std.specs.List.{list_any}
use Rattle.std.specs.Option.{option_and_then, option_map_or}
use Rattle.std.specs.Str.{bytes_eq}
use Rattle.contexts.specs.declared.size.ContextSize.{ContextSize}
use Rattle.contexts.specs.declared.size.ContextSize.TheVariants.{Bytes32, Bytes64}
use Rattle.segments.specs.Shape.{is_shape}
use Rattle.line_text.specs.Lines.{TextLine, lines_of}
use Rattle.line_text.specs.Fields.{fields_of, has_empty_field}
use Rattle.trace_reader.specs.declared.fault.LineFault.{LineFault}
use Rattle.trace_reader.specs.declared.fault.LineFault.TheVariants.{Header as BadHeader, Row as BadRow, Number, Limit, Shape}
use Rattle.traces.specs.declared.version.Version.{Version}
use Rattle.traces.specs.declared.version.Version.TheVariants.{One, Two, Three, Four}
use Rattle.traces.specs.declared.ring.Ring.{Ring}
use Rattle.traces.specs.declared.row.Row.{Row}
use Rattle.traces.specs.declared.row.Row.TheVariants.{Ring as RingRow}
use Rattle.traces.specs.TraceRows.{declares_too_much, has_used_id, ids_with}
use Rattle.trace_reader.specs.TraceLines.{Form, form_of, said_of}
use Rattle.traces.specs.AllowedHeaders.{clash}
use Rattle.traces.specs.Limits.{most_lines_of, most_bytes_of}
use Rattle.trace_reader.specs.Values.{Said, SaysRow, SaysRing}
use Rattle.trace_reader.specs.TraceOfText.{TraceText}

-- what was read so far
pub record State : Type 0 where
  -- how many lines
  pub lines : ℕ
  pub version : Version
  pub size : ContextSize
  -- the rings, in the order of their lines
  pub rings : List Ring
  -- a row was read: a ring that follows is a row too
  pub begun : Bool
  -- the IDs of the rings that came behind the first row
  pub later : List ℕ
  -- all rows are kept in memory
  pub keeps : Bool

abbrev pub start : Bool → State
start keeps = record { lines = 0; version = One; size = Bytes32; rings = []; begun = false; later = []; keeps = keeps }

-- the number of the next line
abbrev pub next_number : State → ℕ
next_number st = st.lines + 1

-- how many lines there may be
abbrev pub most_of : State → ℕ
most_of st = most_lines_of st.keeps st.version

-- 1 Header: the first line is `xtrace 1`, `xtrace 2`, `xtrace 3` or `xtrace 4`, the second `ctx 20` or `ctx 40`, as the contexts have
-- 32 bytes or 64
unfoldable pub version_of : TextLine → Option Version
version_of line =
    if line.is_ended && bytes_eq line.content (codes "xtrace 1") then Some One
    else if line.is_ended && bytes_eq line.content (codes "xtrace 2") then Some Two
    else if line.is_ended && bytes_eq line.content (codes "xtrace 3") then Some Three
    else if line.is_ended && bytes_eq line.content (codes "xtrace 4") then Some Four
    else None

unfoldable pub size_of : TextLine → Option ContextSize
size_of line =
    if line.is_ended && bytes_eq line.content (codes "ctx 20") then Some Bytes32
    else if line.is_ended && bytes_eq line.content (codes "ctx 40") then Some Bytes64
    else None

-- the form of a line, where it has one, and what it says, where its numbers are right
unfoldable pub form_in : State → TextLine → Option Form
form_in st line = form_of st.version st.begun (fields_of line.content)

unfoldable pub said_in : State → TextLine → Option Said
said_in st line = option_and_then said_of (form_in st line)

-- 2 Row: no line feed at the end, an empty field, or no form: so is a row that the version hasn't, as a ring behind a row before version 2
unfoldable pub is_bad_row : State → TextLine → Bool
is_bad_row st line = not line.is_ended || has_empty_field (fields_of line.content) || is_none (form_in st line)

-- 3 Number: a number of another length or with another character, or one that doesn't fit its place
unfoldable pub is_bad_number : State → TextLine → Bool
is_bad_number st line = is_none (said_in st line)

abbrev pub is_too_much : Version → Said → Bool
is_too_much version (SaysRow row) = declares_too_much version row
is_too_much version (SaysRing ring) = false

-- 4 Limit: a line past the limit, or too many blocks in one declaration; a line of too many bytes has this fault alone
unfoldable pub is_past_limit : State → TextLine → Bool
is_past_limit st line = nat_lt (most_of st) (next_number st) || option_map_or (is_too_much st.version) (said_in st line) false

unfoldable pub is_too_long : ℕ → TextLine → Bool
is_too_long most line = nat_lt most (length line.content)

-- its ring's segments make none
abbrev pub has_no_shape : Row → Bool
has_no_shape (RingRow ring) = not (is_shape ring.shape)
has_no_shape row = false

-- beside the rings of the header and those that came later, by their IDs
abbrev pub is_misplaced : List Ring → List ℕ → Said → Bool
is_misplaced rings later (SaysRing ring) = not (is_shape ring.shape) || list_any (clash ring) rings
is_misplaced rings later (SaysRow row) = has_no_shape row || has_used_id rings later row

-- 5 Shape: segments that make no ring, a ring of the header that can't stand beside an earlier one, or a later one with an ID that was used before
unfoldable pub is_bad_shape : State → TextLine → Bool
is_bad_shape st line = option_map_or (is_misplaced st.rings st.later) (said_in st line) false

-- the least fault of a line behind the header
unfoldable pub row_fault : State → TextLine → Option LineFault
row_fault st line =
    if is_too_long (most_bytes_of st.version) line then Some Limit
    else if is_bad_row st line then Some BadRow
    else if is_bad_number st line then Some Number
    else if is_past_limit st line then Some Limit
    else if is_bad_shape st line then Some Shape
    else None

-- the least fault of a line
unfoldable pub line_fault : State → TextLine → Option LineFault
line_fault st line =
    if st.lines == 0 then (if is_none (version_of line) then Some BadHeader else None)
    else if st.lines == 1 then (if is_none (size_of line) then Some BadHeader else None)
    else row_fault st line

-- behind a line that says the row
abbrev pub behind_row : State → Row → State
behind_row st row = record st { lines = next_number st; begun = true; later = ids_with st.later row }

abbrev pub with_said : State → Option Said → State × Option Row
with_said st (Some (SaysRow row)) = (behind_row st row, Some row)
with_said st (Some (SaysRing ring)) = (record st { lines = next_number st; rings = st.rings ++ ring ∷ [] }, None)
with_said st None = (st, None)

abbrev pub with_version : State → Option Version → State
with_version st (Some version) = record st { lines = next_number st; version = version }
with_version st None = st

abbrev pub with_size : State → Option ContextSize → State
with_size st (Some size) = record st { lines = next_number st; size = size }
with_size st None = st

-- what is read after a line without a fault, and the row that the line says, if it says one
unfoldable pub after : State → TextLine → State × Option Row
after st line =
    if st.lines == 0 then (with_version st (version_of line), None)
    else if st.lines == 1 then (with_size st (size_of line), None)
    else with_said st (said_in st line)

-- the next line: the new state and the row, or the least fault
unfoldable pub read_line : State → TextLine → Result (State × Option Row) LineFault
read_line st line = option_map_or Err (line_fault st line) (Ok (after st line))

abbrev pub with_row : Option Row → Result (State × List Row) (ℕ × LineFault) → Result (State × List Row) (ℕ × LineFault)
with_row (Some row) (Ok (st, rows)) = Ok (st, row ∷ rows)
with_row None (Ok (st, rows)) = Ok (st, rows)
with_row row (Err fault) = Err fault

abbrev pub go_on : ℕ → Result (State × Option Row) LineFault → (State → Result (State × List Row) (ℕ × LineFault)) → Result (State × List Row) (ℕ × LineFault)
go_on number (Ok (st, row)) rest = with_row row (rest st)
go_on number (Err fault) rest = Err (number, fault)

-- all lines: the state behind them and the rows, or the first bad line and its least fault
unfoldable pub read_lines : State → List TextLine → Result (State × List Row) (ℕ × LineFault)
read_lines st [] = Ok (st, [])
read_lines st (line ∷ lines) = go_on (next_number st) (read_line st line) (λ after. read_lines after lines)

-- a text ends behind its header at the earliest: the line that isn't there is a bad one
abbrev pub whole : Result (State × List Row) (ℕ × LineFault) → Result TraceText (ℕ × LineFault)
whole (Ok (st, rows)) =
    if nat_lt st.lines 2 then Err (next_number st, BadHeader)
    else Ok (record { header = record { version = st.version; context_size = st.size; rings = st.rings }; first = next_number st - length rows; rows = rows })
whole (Err fault) = Err fault

-- the trace of a text, whose rows are all kept or not; or its first bad line and the least fault there
unfoldable pub trace_of : Bool → List ℕ → Result TraceText (ℕ × LineFault)
trace_of keeps text = whole (read_lines (start keeps) (lines_of text))
