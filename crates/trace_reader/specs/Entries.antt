-- What the reader's functions answer, in the words of Reading
use Rattle.std.specs.Prelude.{◌≡◌, ℕ, Bool, true, false, not, List, [], ◌∷◌, ◌++◌, length, map, Option, Some, None, Result, Ok, Err, nat_lt, codes, if◌then◌else◌}
use Rattle.std.specs.Option.{option_map_or}
use Rattle.std.specs.Str.{bytes_eq}
use Rattle.segments.specs.ShapeValue.{segment_of, shape_of}
use Rattle.segments.specs.declared.segment.Segment.{Segment}
use Rattle.trb.specs.declared.ring_kind.RingKind.{RingKind}
use Rattle.line_text.specs.Fields.{fields_of, has_empty_field}
use Rattle.line_text.specs.Lines.{TextLine}
use Rattle.trace_reader.specs.declared.fault.LineFault.{LineFault}
use Rattle.trace_reader.specs.declared.fault.LineFault.TheVariants.{Row as BadRow, Number, Limit, Shape}
use Rattle.trace_reader.specs.declared.fault.LineError.{LineError}
use Rattle.trace_reader.specs.declared.fault.LineError.TheVariants.{Fault, Memory}
use Rattle.trace_reader.specs.declared.fault.ReadFault.{ReadFault}
use Rattle.trace_reader.specs.declared.fault.ReadFault.TheVariants.{Line, Memory as NoMemory}
use Rattle.trace_reader.specs.declared.entry.Entry.{Entry}
use Rattle.trace_reader.specs.declared.entry.Entry.TheVariants.{Row as RowSaid, Ring as RingSaid}
use Rattle.trace_reader.specs.declared.entry.RingEntry.{RingEntry}
use Rattle.trace_reader.specs.declared.entry.RowEntry.{RowEntry}
use Rattle.trace_reader.specs.declared.entry.RowEntry.TheVariants.{Plain as PlainEntry, Comes as ComesEntry}
use Rattle.trace_reader.specs.declared.entry.FirstWord.{FirstWord}
use Rattle.trace_reader.specs.declared.so_far.TraceSoFar.{TraceSoFar}
use Rattle.traces.specs.declared.ring.Ring.{Ring}
use Rattle.trace_reader.specs.declared.entry.FirstWord.TheVariants.{Sub as SubWord, W, Reg as RegWord, Db, Ev, Ring as RingWord, Free as FreeWord, Nop as NopWord, Rd}
use Rattle.traces.specs.declared.row.Row.{Row}
use Rattle.traces.specs.declared.trace.Trace.{Trace}
use Rattle.traces.specs.declared.row.Row.TheVariants.{Ring as RingRow}
use Rattle.traces.specs.declared.version.Version.{Version}
use Rattle.traces.specs.Versions.{has_ring_rows, has_runs}
use Rattle.trace_reader.specs.Grammar.{form_as}
use Rattle.trace_reader.specs.Grammar as grammar
use Rattle.trace_reader.specs.TraceLines.{Form, form_of, said_of, sub_line, write_line, reg_line, bell_line, event_line, ring_line, comes_line, goes_line, withdraws_line, reg_read_line}
use Rattle.trace_reader.specs.LineAnswers.{valued_by}
use Rattle.traces.specs.Limits.{most_bytes_of}
use Rattle.trace_reader.specs.Reading.{State, behind_row, is_bad_row, is_past_limit, is_misplaced, is_too_long, read_line, said_in, with_said}
use Rattle.trace_reader.specs.TraceOfText.{TraceText}
use Rattle.trace_reader.specs.Values.{Said, SaysRow, SaysRing}

-- a ring as its line says
abbrev pub ring_of : RingEntry → Ring
ring_of ring = record { id = ring.id; shape = shape_of ring.kind ring.segments.items }

-- what the line of a ring says behind its first word
abbrev pub said_of_ring : RingEntry → ℕ × (RingKind × List Segment)
said_of_ring ring = (ring.id, (ring.kind, map segment_of ring.segments.items))

-- a row as its line says
abbrev pub row_of : RowEntry → Row
row_of (PlainEntry plain) = plain.row
row_of (ComesEntry ring) = RingRow (ring_of ring)

-- what a read line says
abbrev pub value_of : Entry → Said
value_of (RowSaid row) = SaysRow (row_of row)
value_of (RingSaid ring) = SaysRing (ring_of ring)

-- the answer is the wanted one, or memory was wanting
abbrev pub Answers : Result Entry LineError → Result Said LineFault → Type 0
Answers (Ok entry) wanted = wanted ≡ Ok (value_of entry)
Answers (Err (Fault fault)) wanted = wanted ≡ Err fault
Answers (Err Memory) wanted = Unit {0}

-- what a fault says; want of memory says nothing
abbrev pub IfFault : LineError → (LineFault → Type 0) → Type 0
IfFault (Fault fault) P = P fault
IfFault Memory P = Unit {0}

abbrev pub IfBadLine : ReadFault → (ℕ → LineFault → Type 0) → Type 0
IfBadLine (Line line fault) P = P line fault
IfBadLine NoMemory P = Unit {0}

-- the fault of the line with this number
abbrev pub at_line : ℕ → LineError → ReadFault
at_line line (Fault fault) = Line line fault
at_line line Memory = NoMemory

-- a line's first word
unfoldable pub word_named : List ℕ → Option FirstWord
word_named word =
    if bytes_eq word (codes "sub") then Some SubWord
    else if bytes_eq word (codes "w") then Some W
    else if bytes_eq word (codes "reg") then Some RegWord
    else if bytes_eq word (codes "db") then Some Db
    else if bytes_eq word (codes "ev") then Some Ev
    else if bytes_eq word (codes "ring") then Some RingWord
    else if bytes_eq word (codes "free") then Some FreeWord
    else if bytes_eq word (codes "nop") then Some NopWord
    else if bytes_eq word (codes "rd") then Some Rd
    else None

-- the form of such a line, where the version has it
abbrev pub form_if : Bool → grammar.Line Said → List (List ℕ) → Option Form
form_if true line fields = form_as line fields
form_if false line fields = None

-- a ring of the header, where no row has begun the rows; else one that comes
abbrev pub ring_form : Version → Bool → List (List ℕ) → Option Form
ring_form version false fields = form_as ring_line fields
ring_form version true fields = form_if (has_ring_rows version) (comes_line (has_runs version)) fields

-- the form of the fields behind the first word
abbrev pub form_behind : Version → Bool → Option FirstWord → List (List ℕ) → Option Form
form_behind version begun (Some SubWord) fields = form_as sub_line fields
form_behind version begun (Some W) fields = form_as write_line fields
form_behind version begun (Some RegWord) fields = form_as reg_line fields
form_behind version begun (Some Db) fields = form_as bell_line fields
form_behind version begun (Some Ev) fields = form_as event_line fields
form_behind version begun (Some RingWord) fields = ring_form version begun fields
form_behind version begun (Some FreeWord) fields = form_if (has_ring_rows version) goes_line fields
form_behind version begun (Some NopWord) fields = form_if (has_ring_rows version) withdraws_line fields
form_behind version begun (Some Rd) fields = form_if (has_runs version) reg_read_line fields
form_behind version begun None fields = None

-- a line of this form, by its numbers
abbrev pub said_by : Option Form → Result Said LineFault
said_by form = valued_by said_of form

-- a line of these fields
unfoldable pub said_by_fields : Version → Bool → List (List ℕ) → Result Said LineFault
said_by_fields version begun fields = said_by (form_of version begun fields)

-- the fault of a line of at most so many bytes before its fields are looked at
unfoldable pub content_fault : ℕ → TextLine → Option LineFault
content_fault most line =
    if nat_lt most (length line.content) then Some Limit
    else if not line.is_ended then Some BadRow
    else if has_empty_field (fields_of line.content) then Some BadRow
    else None

-- a line by itself: its content's fault, or what its fields say
abbrev pub said_alone : Version → Bool → TextLine → Result Said LineFault
said_alone version begun line = option_map_or Err (content_fault (most_bytes_of version) line) (said_by_fields version begun (fields_of line.content))

-- a line of these bytes says what the driver did, in each version, behind rings and behind rows
abbrev pub SaysAlone : Row → List ℕ → Type 0
SaysAlone row content = (version : Version) (begun : Bool) → said_alone version begun (record { content = content; is_ended = true }) ≡ Ok (SaysRow row)

-- a line behind the header, before its ring is placed among the others
unfoldable pub said_by_line : State → TextLine → Result Said LineFault
said_by_line st line =
    if is_too_long (most_bytes_of st.version) line then Err Limit
    else if is_bad_row st line then Err BadRow
    else option_map_or (λ said. if is_past_limit st line then Err Limit else Ok said) (said_in st line) (Err Number)

-- what a trace says
abbrev pub text_of : Trace → TraceText
text_of trace = record { header = trace.header; first = trace.first; rows = trace.rows }

-- what the reader holds
abbrev pub state_of : TraceSoFar → State
state_of r = record { lines = r.lines; version = r.version; size = r.size; rings = r.rings.items; begun = r.begun; later = r.later.items; keeps = r.keeps }

-- the rows so far, and the row of the next line, if it says one
abbrev pub took_in : List Row → Result (State × Option Row) LineFault → Result (State × List Row) LineFault
took_in rows (Ok (st, Some row)) = Ok (st, rows ++ row ∷ [])
took_in rows (Ok (st, None)) = Ok (st, rows)
took_in rows (Err fault) = Err fault

-- the answer is the row that a line says behind the first row's, or the line's least fault, or memory was wanting
abbrev pub AnswersRow : State → Result Row LineError → TextLine → Type 0
AnswersRow st (Ok row) line = read_line st line ≡ Ok (behind_row st row, Some row)
AnswersRow st (Err (Fault fault)) line = read_line st line ≡ Err fault
AnswersRow st (Err Memory) line = Unit {0}

-- a line behind the header, with its ring among those before it
abbrev pub placed : State → Result Said LineFault → Result (State × Option Row) LineFault
placed st (Err fault) = Err fault
placed st (Ok said) = if is_misplaced st.rings st.later said then Err Shape else Ok (with_said st (Some said))

-- the row that a line says, among the rings before it
abbrev pub SaysPlaced : State → Result Row LineError → Said → Type 0
SaysPlaced st (Ok row) said = placed st (Ok said) ≡ Ok (behind_row st row, Some row)
SaysPlaced st (Err (Fault fault)) said = placed st (Ok said) ≡ Err fault
SaysPlaced st (Err Memory) said = Unit {0}
