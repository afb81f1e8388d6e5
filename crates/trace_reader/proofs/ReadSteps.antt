-- One line more of a text
use Rattle.trace_reader.proofs.Words.{rules, ◌≡◌, ◌-◌, ◌≤◌, ◌∷◌, ◌++◌, ◌∙◌, ℕ, List, [], Bool, false, Option, Some, None, Result, Ok, Err, refl, ap, cond, length, nat_lt, arith, is_none, option_map_or, nat_tests, common_steps, ContextSize, Version, TextLine, lines_of, LineFault, BadHeader, BadRow, Number, Limit, Shape, LineError, Row, Answers, IfBadLine, IfFault, at_line, placed, said_by_line, took_in, State, after, go_on, is_bad_number, is_bad_shape, is_misplaced, line_fault, next_number, read_line, read_lines, trace_of, row_fault, size_of, start, version_of, whole, with_said, Said}

-- the rows so far, before what later lines say
abbrev pub prepend : List Row → Result (State × List Row) (ℕ × LineFault) → Result (State × List Row) (ℕ × LineFault)
prepend rows (Ok (st, later)) = Ok (st, rows ++ later)
prepend rows (Err fault) = Err fault

pub nothing_before : (r : Result (State × List Row) (ℕ × LineFault)) → prepend [] r ≡ r
nothing_before r = search rules

good : (rows : List Row) (number : ℕ) (r : Result (State × Option Row) LineFault) (rest : State → Result (State × List Row) (ℕ × LineFault)) (next : State × List Row) →
    took_in rows r ≡ Ok next → prepend rows (go_on number r rest) ≡ prepend next.1 (rest next.0)
good rows number r rest next is = search (rules, common_steps)

-- these rows were read, and these lines of the text are left
abbrev pub HasLines : Bool → List ℕ → List Row → State → List TextLine → Type 0
HasLines keeps text rows st lines = read_lines (start keeps) (lines_of text) ≡ prepend rows (read_lines st lines)

module _ (keeps : Bool) (text : List ℕ) (rows : List Row) (st : State) where
  pub stopped : (line : TextLine) (lines : List TextLine) (e : LineError) → HasLines keeps text rows st (line ∷ lines) → IfFault e (λ fault. read_line st line ≡ Err fault) →
      IfBadLine (at_line (next_number st) e) (λ number code. trace_of keeps text ≡ Err (number, code))
  unfolding trace_of read_lines
  stopped line lines e so_far is = search rules

  pub read_on : (later : List Row) (next : State) (line : TextLine) (rest : List ℕ) (lines : List TextLine) → HasLines keeps text rows st lines → lines ≡ line ∷ lines_of rest →
      took_in rows (read_line st line) ≡ Ok (next, later) → HasLines keeps text later next (lines_of rest)
  unfolding read_lines
  read_on later next line rest lines so_far is took = grind (arith, common_steps, good)

  pub ended : (rest : List ℕ) → HasLines keeps text rows st (lines_of rest) → length rest ≡ 0 → trace_of keeps text ≡ whole (Ok (st, rows))
  unfolding trace_of read_lines lines_of
  ended rest so_far short = grind (arith, common_steps)

pub header_there : (st : State) (rows : List Row) → 2 ≤ st.lines →
    whole (Ok (st, rows)) ≡ Ok (record { header = record { version = st.version; context_size = st.size; rings = st.rings }; first = next_number st - length rows; rows = rows })
header_there st rows there = grind (arith, nat_lt, nat_tests)

by_tests : (st : State) (late past : Bool) (said : Option Said) →
    option_map_or Err (cond late (Some BadRow) (cond (is_none said) (Some Number) (cond past (Some Limit) (cond (option_map_or (is_misplaced st.rings st.later) said false) (Some Shape) None)))) (Ok (with_said st said))
    ≡ placed st (cond late (Err BadRow) (option_map_or (λ s. cond past (Err Limit) (Ok s)) said (Err Number)))
by_tests st late past said = search rules

pub behind_header : (st : State) (line : TextLine) → 2 ≤ st.lines → read_line st line ≡ placed st (said_by_line st line)
unfolding read_line line_fault after row_fault said_by_line is_bad_number is_bad_shape
behind_header st line behind = search rules

pub version_read : (st : State) (line : TextLine) (version : Version) → st.lines ≡ 0 → version_of line ≡ Some version → read_line st line ≡ Ok (record st { lines = next_number st; version = version }, None)
unfolding read_line line_fault after
version_read st line version at is = rw (at, is) refl

pub no_version : (st : State) (line : TextLine) → st.lines ≡ 0 → version_of line ≡ None → read_line st line ≡ Err BadHeader
unfolding read_line line_fault
no_version st line at is = rw (at, is) refl

pub size_read : (st : State) (line : TextLine) (size : ContextSize) → st.lines ≡ 1 → size_of line ≡ Some size → read_line st line ≡ Ok (record st { lines = next_number st; size = size }, None)
unfolding read_line line_fault after
size_read st line size at is = rw (at, is) refl

pub no_size : (st : State) (line : TextLine) → st.lines ≡ 1 → size_of line ≡ None → read_line st line ≡ Err BadHeader
unfolding read_line line_fault
no_size st line at is = rw (at, is) refl

-- an entry that was read, or a fault that the line has
pub line_error : (st : State) (line : TextLine) (e : LineError) → 2 ≤ st.lines → Answers (Err e) (said_by_line st line) → IfFault e (λ fault. read_line st line ≡ Err fault)
line_error st line e behind is = search (rules, behind_header)

pub line_entry : (st : State) (line : TextLine) (said : Said) → 2 ≤ st.lines → said_by_line st line ≡ Ok said → read_line st line ≡ placed st (Ok said)
line_entry st line said behind is = behind_header st line behind ∙ ap (placed st) is
