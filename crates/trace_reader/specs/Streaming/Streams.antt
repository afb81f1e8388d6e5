-- What is read of the text that a device gives, piece by piece
use Rattle.std.specs.Prelude.{◌≡◌, ℕ, Bool, true, List, [], ◌++◌, map, Option, Some, None, Result, Ok, Err}
use Rattle.line_text.specs.Lines.{lines_of}
use Rattle.traces.specs.declared.header.Header.{Header}
use Rattle.traces.specs.declared.row.Row.{Row}
use Rattle.trace_reader.specs.declared.fault.LineFault.{LineFault}
use Rattle.trace_reader.specs.Reading.{trace_of}
use Rattle.trace_reader.specs.TraceOfText.{TraceText}
use Rattle.trace_reader.specs.declared.row_reader.fault.StreamFault.{StreamFault}
use Rattle.trace_reader.specs.declared.row_reader.fault.StreamFault.TheVariants.{Line, Device, Memory}
use Rattle.trace_reader.specs.declared.row_reader.reader.RowReader.{RowReader}
use Rattle.trace_reader.specs.Streaming.Ahead.{OfText, ahead_of}
use Rattle.trace_reader.specs.Streaming.ReaderState.{progress_of}
use Rattle.trace_reader.specs.Streaming.RowByRow.{Progress}
use Rattle.trace_reader.specs.Streaming.WholeTexts.{GivenRows, rows_given}

-- so it is of the text that came from the device, with what it still holds behind that
abbrev pub OfStream : Option (List ℕ) → Option (List ℕ) → (List ℕ → Type 0) → Type 0
OfStream held held' P = OfText true held held' [] [] (λ text left. P text)

-- this is the first bad line of this text and its least fault
abbrev pub IsBadLine : Bool → Option (List ℕ) → Option (List ℕ) → ℕ → LineFault → Type 0
IsBadLine keeps held held' line fault = OfStream held held' (λ text. trace_of keeps text ≡ Err (line, fault))

-- what a bad line says; want of memory and a failure of the device say nothing
abbrev pub IfBadLine : StreamFault → (ℕ → LineFault → Type 0) → Type 0
IfBadLine (Line line fault) P = P line fault
IfBadLine Device P = Unit {0}
IfBadLine Memory P = Unit {0}

-- ---- how far calls have come

-- rows that were read and those that further calls give, as a trace with this header and number of the first row; or the bad line
abbrev pub read_with : Header → ℕ → List Row → GivenRows → Result TraceText (ℕ × LineFault)
read_with h first done (rows, None) = Ok (record { header = h; first = first; rows = done ++ map (λ r. r.1) rows })
read_with h first done (rows, Some fault) = Err fault

-- the text says these rows, and then what further calls give of what is left
abbrev pub IsReadTo : Bool → Option (List ℕ) → Option (List ℕ) → Header → ℕ → List Row → Progress → List ℕ → Type 0
IsReadTo keeps held held' h first done p ahead =
    OfText p.ended held held' [] ahead (λ text left. trace_of keeps text ≡ read_with h first done (rows_given (lines_of left) p left))

-- these rows were read, and the reader stands behind them
abbrev pub HasRead : Option (List ℕ) → Option (List ℕ) → ℕ → List Row → RowReader → Type 0
HasRead held held' first done r = IsReadTo r.keeps held held' r.header first done (progress_of r) (ahead_of r.ahead)
