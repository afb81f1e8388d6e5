-- How a trace is read row by row: what each call answers to a text, how far the reading has come then, and the text that is left
use Rattle.std.specs.Prelude.{ℕ, Bool, true, false, List, [], ◌∷◌, nat_lt, Option, Some, None, Result, Ok, Err, is_none, if◌then◌else◌}
use Rattle.std.specs.Option.{option_map}
use Rattle.std.specs.Io.BufRead.{drop_through}
use Rattle.line_text.specs.Lines.{TextLine, lines_of}
use Rattle.traces.specs.declared.row.Row.{Row}
use Rattle.trace_reader.specs.declared.fault.LineFault.{LineFault}
use Rattle.trace_reader.specs.declared.fault.LineFault.TheVariants.{Header as BadHeader}
use Rattle.trace_reader.specs.Reading.{State, next_number, read_line, start}

-- the text behind its first line
abbrev pub behind_line : List ℕ → List ℕ
behind_line text = drop_through 10 text

-- how far the reading has come
pub record Progress : Type 0 where
  -- what the lines so far have said
  pub read : State
  -- a fault was told, or the end
  pub ended : Bool

-- ---- the lines before the first row

-- behind these lines rows stand: a ring that follows is one too
abbrev pub with_rows : State → Bool → Progress
with_rows st ended = record { read = record st { begun = true }; ended = ended }

abbrev pub opened_by : State → List ℕ → Result (State × Option Row) LineFault → (State → Result (Progress × List ℕ) (ℕ × LineFault)) → Result (Progress × List ℕ) (ℕ × LineFault)
opened_by st text (Ok (next, None)) others = others next
opened_by st text (Ok (next, Some row)) others = Ok (with_rows st false, text)
opened_by st text (Err fault) others = Err (next_number st, fault)

-- these are the text's lines: what those before the first row say, and the text from that row's line on; or the first bad line and its
-- least fault. Where no row follows the reading has ended
unfoldable pub opened_in : State → List TextLine → List ℕ → Result (Progress × List ℕ) (ℕ × LineFault)
opened_in st [] text = if nat_lt st.lines 2 then Err (next_number st, BadHeader) else Ok (with_rows st true, text)
opened_in st (line ∷ lines) text = opened_by st text (read_line st line) (λ next. opened_in next lines (behind_line text))

-- what is read of a text before its first row; all rows will be kept, or not
unfoldable pub opened : Bool → List ℕ → Result (Progress × List ℕ) (ℕ × LineFault)
opened keeps text = opened_in (start keeps) (lines_of text) text

-- ---- the rows

pub record Call : Type 0 where
  -- the row and the number of its line, none behind the last; or the bad line and its least fault
  pub answer : Result (Option (ℕ × Row)) (ℕ × LineFault)
  pub progress : Progress
  -- the text that is left
  pub left : List ℕ

-- the call that reads a line: a bad one stays where it is
abbrev pub call_on : State → List ℕ → Result (State × Option Row) LineFault → Call
call_on st text (Ok (next, row)) =
    record { answer = Ok (option_map (λ r. (next.lines, r)) row); progress = record { read = next; ended = is_none row }; left = behind_line text }
call_on st text (Err fault) = record { answer = Err (next_number st, fault); progress = record { read = st; ended = true }; left = text }

-- the call on a text of these lines
abbrev pub call_in : State → List ℕ → List TextLine → Call
call_in st text [] = record { answer = Ok None; progress = record { read = st; ended = true }; left = text }
call_in st text (line ∷ lines) = call_on st text (read_line st line)

-- one call: the next row; behind the end it answers none, and changes nothing
unfoldable pub next_row : Progress → List ℕ → Call
next_row p text = if p.ended then record { answer = Ok None; progress = p; left = text } else call_in p.read text (lines_of text)
