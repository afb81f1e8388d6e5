-- What all calls on a text say together
use Rattle.std.specs.Prelude.{◌≡◌, ℕ, Bool, ◌+◌, List, [], ◌∷◌, length, map, take, Option, Some, None, Result, Ok, Err}
use Rattle.line_text.specs.Lines.{TextLine, lines_of}
use Rattle.traces.specs.declared.row.Row.{Row}
use Rattle.trace_reader.specs.declared.fault.LineFault.{LineFault}
use Rattle.trace_reader.specs.Reading.{State, next_number, read_lines}
use Rattle.trace_reader.specs.TraceOfText.{TraceText}
use Rattle.trace_reader.specs.Streaming.RowByRow.{Progress, next_row, opened}

-- rows with the numbers of their lines; and the bad line behind them, where one is why no more came
abbrev pub GivenRows : Type 0
GivenRows = List (ℕ × Row) × Option (ℕ × LineFault)

abbrev pub answered : Result (Option (ℕ × Row)) (ℕ × LineFault) → GivenRows → GivenRows
answered (Ok (Some row)) later = (row ∷ later.0, later.1)
answered (Ok None) later = ([], None)
answered (Err fault) later = ([], Some fault)

-- what the calls answer, one after another: one for each of these lines, and one more
abbrev pub rows_given : List TextLine → Progress → List ℕ → GivenRows
rows_given [] p text = answered (next_row p text).answer ([], None)
rows_given (line ∷ lines) p text = answered (next_row p text).answer (rows_given lines (next_row p text).progress (next_row p text).left)

-- ---- the whole text

-- what was read before the rows and the rows, as a trace; or the bad line
abbrev pub joined : State → GivenRows → Result TraceText (ℕ × LineFault)
joined st (rows, None) =
    Ok (record { header = record { version = st.version; context_size = st.size; rings = st.rings }; first = st.lines + 1; rows = map (λ r. r.1) rows })
joined st (rows, Some fault) = Err fault

abbrev pub joined_behind : Result (Progress × List ℕ) (ℕ × LineFault) → Result TraceText (ℕ × LineFault)
joined_behind (Ok (p, left)) = joined p.read (rows_given (lines_of left) p left)
joined_behind (Err fault) = Err fault

-- what opening and the calls behind it say of a text
unfoldable pub read_by_calls : Bool → List ℕ → Result TraceText (ℕ × LineFault)
read_by_calls keeps text = joined_behind (opened keeps text)

-- ---- where a bad line is told

-- the rows stand on lines one after another, from this number on
abbrev pub AreNumbered : ℕ → List (ℕ × Row) → Type 0
AreNumbered number [] = Unit {0}
AreNumbered number (row ∷ rows) = (row.0 ≡ number) × AreNumbered (number + 1) rows

-- the bad line stands behind the rows' lines, of which this is the first
abbrev pub IsBehind : ℕ → GivenRows → Type 0
IsBehind number (rows, None) = Unit {0}
IsBehind number (rows, Some fault) = fault.0 ≡ number + length rows

-- the rows are those that the first of these lines say, one each; and the bad line, where one is told, is the next
abbrev pub AreOfLines : State → List TextLine → GivenRows → Type 0
AreOfLines st lines given =
    AreNumbered (next_number st) given.0 × ((end : State) × (read_lines st (take (length given.0) lines) ≡ Ok (end, map (λ r. r.1) given.0))) × IsBehind (next_number st) given
