-- The lines of a trace behind its first two, as data: which there are, by the trace's version and by whether rows have begun
use Rattle.std.specs.Prelude.{ℕ, Bool, true, false, List, [], ◌∷◌, ◌++◌, Option, codes}
use Rattle.segments.specs.declared.segment.Segment.{Segment}
use Rattle.trb.specs.declared.ring_kind.RingKind.{RingKind}
use Rattle.traces.specs.Versions.{has_ring_rows, has_runs}
use Rattle.traces.specs.declared.ring.Ring.{Ring}
use Rattle.traces.specs.declared.row.Row.TheVariants.{Sub, Write, Reg, Bell, Read, Ring as RingRow, Free as FreeRow, Nop as NopRow, RegRead}
use Rattle.traces.specs.declared.version.Version.{Version}
use Rattle.trace_reader.specs.Grammar.{Byte, Number, Long, WordAddress, KindOfRing, Nothing, Event, RegisterValue, Blocks, Segments, Line, FormOf, form_in, value_in}
use Rattle.trace_reader.specs.Values.{Said, SaysRow, SaysRing}

-- ---- what the driver does

abbrev pub sub_line : Line Said
sub_line = record { word = codes "sub"; kinds = Byte ∷ []; tail = Blocks; make = λ v. SaysRow (Sub v.0 v.1) }

abbrev pub write_line : Line Said
write_line = record { word = codes "w"; kinds = WordAddress ∷ Number ∷ []; tail = Nothing; make = λ v. SaysRow (Write v.0 v.1.0) }

abbrev pub reg_line : Line Said
reg_line = record { word = codes "reg"; kinds = []; tail = RegisterValue; make = λ v. SaysRow (Reg v.0 v.1) }

abbrev pub bell_line : Line Said
bell_line = record { word = codes "db"; kinds = Byte ∷ Byte ∷ []; tail = Nothing; make = λ v. SaysRow (Bell v.0 v.1.0) }

abbrev pub event_line : Line Said
event_line = record { word = codes "ev"; kinds = []; tail = Event; make = λ v. SaysRow (Read v) }

-- a register was read
abbrev pub reg_read_line : Line Said
reg_read_line = record { word = codes "rd"; kinds = []; tail = RegisterValue; make = λ v. SaysRow (RegRead v.0 v.1) }

abbrev pub driver_lines : List (Line Said)
driver_lines = sub_line ∷ write_line ∷ reg_line ∷ bell_line ∷ event_line ∷ []

-- ---- rings

abbrev pub ring_as : ℕ × (RingKind × List Segment) → Ring
ring_as v = record { id = v.0; shape = record { kind = v.1.0; segments = v.1.1; offset = 0 } }

-- a ring of the header
abbrev pub ring_line : Line Said
ring_line = record { word = codes "ring"; kinds = Byte ∷ KindOfRing true ∷ []; tail = Segments; make = λ v. SaysRing (ring_as v) }

-- a ring that comes behind the first row: of any kind, or a transfer ring alone
abbrev pub comes_line : Bool → Line Said
comes_line any = record { word = codes "ring"; kinds = Byte ∷ KindOfRing any ∷ []; tail = Segments; make = λ v. SaysRow (RingRow (ring_as v)) }

abbrev pub goes_line : Line Said
goes_line = record { word = codes "free"; kinds = Byte ∷ []; tail = Nothing; make = λ v. SaysRow (FreeRow v.0) }

abbrev pub withdraws_line : Line Said
withdraws_line = record { word = codes "nop"; kinds = Byte ∷ Long ∷ []; tail = Nothing; make = λ v. SaysRow (NopRow v.0 v.1.0) }

-- lines that the version has, or not
abbrev pub if_has : Bool → List (Line Said) → List (Line Said)
if_has true lines = lines
if_has false lines = []

-- the line of a ring, where rows have begun, or not
abbrev pub lines_of_ring : Version → Bool → List (Line Said)
lines_of_ring version false = ring_line ∷ []
lines_of_ring version true = if_has (has_ring_rows version) (comes_line (has_runs version) ∷ [])

abbrev pub said_lines : Version → Bool → List (Line Said)
said_lines version begun =
    driver_lines ++ lines_of_ring version begun ++ if_has (has_ring_rows version) (goes_line ∷ withdraws_line ∷ []) ++ if_has (has_runs version) (reg_read_line ∷ [])

-- a line with the fields behind its word, before a number is looked at
abbrev pub Form : Type 0
Form = FormOf Said

unfoldable pub form_of : Version → Bool → List (List ℕ) → Option Form
form_of version begun fields = form_in (said_lines version begun) fields

unfoldable pub said_of : Form → Option Said
said_of form = value_in form
