-- What is told of a trace as its lines come: the first row that breaks a rule, unless a bad line stands before it
use Rattle.std.specs.Prelude.{◌≡◌, ℕ, ◌+◌, Bool, false, List, [], ◌++◌, map, Option, None, Some, Result, Ok, Err}
use Rattle.line_text.specs.Lines.{lines_of}
use Rattle.traces.specs.declared.header.Header.{Header}
use Rattle.traces.specs.declared.row.Row.{Row}
use Rattle.trace_reader.specs.declared.fault.LineFault.{LineFault}
use Rattle.trace_reader.specs.Streaming.Ahead.{OfText}
use Rattle.trace_reader.specs.Streaming.RowByRow.{Progress, opened}
use Rattle.trace_reader.specs.Streaming.Streams.{HasRead, OfStream}
use Rattle.trace_reader.specs.Streaming.WholeTexts.{GivenRows, rows_given}
use Rattle.trace_reader.specs.declared.row_reader.reader.RowReader.{RowReader}
use Rattle.ownership_rules.specs.declared.refusal.Refusal.{Refusal}
use Rattle.ownership_rules.specs.Rules.{trace_verdict}

-- the row that breaks a rule, with the least of these; none where no row does; or the bad line and its least fault
abbrev pub ToldSoFar : Type 0
ToldSoFar = Result (Option (ℕ × Refusal)) (ℕ × LineFault)

-- the verdict on the rows before the bad line; where none of them breaks a rule, that line
abbrev pub told_first : Option (ℕ × Refusal) → Option (ℕ × LineFault) → ToldSoFar
told_first (Some refused) bad = Ok (Some refused)
told_first None (Some fault) = Err fault
told_first None None = Ok None

-- of rows that were read, the first with this number, and of those that stand on the lines behind them, before the bad one
abbrev pub told_with : Header → ℕ → List Row → GivenRows → ToldSoFar
told_with h first done (rows, bad) = told_first (trace_verdict h first (done ++ map (λ r. r.1) rows)) bad

-- behind the lines before the rows
abbrev pub told_behind : Result (Progress × List ℕ) (ℕ × LineFault) → ToldSoFar
told_behind (Ok (p, left)) =
    told_with (record { version = p.read.version; context_size = p.read.size; rings = p.read.rings }) (p.read.lines + 1) [] (rows_given (lines_of left) p left)
told_behind (Err fault) = Err fault

-- of a text
unfoldable pub told_as_it_comes : Bool → List ℕ → ToldSoFar
told_as_it_comes keeps text = told_behind (opened keeps text)

-- ---- of the text that a device gives

-- this is told by what came of it, whatever comes behind
abbrev pub IsToldSoFar : Bool → Option (List ℕ) → Option (List ℕ) → ToldSoFar → Type 0
IsToldSoFar keeps held held' told = OfText false held held' [] [] (λ text left. told_as_it_comes keeps text ≡ told)

-- no row before the bad line breaks a rule, and that line is told
abbrev pub IsToldBad : Bool → Option (List ℕ) → Option (List ℕ) → ℕ → LineFault → Type 0
IsToldBad keeps held held' line fault = OfStream held held' (λ text. told_as_it_comes keeps text ≡ Err (line, fault))

-- a pass ended at a row of the trace that a reader reads on: it breaks a rule, this is the least that it breaks, no row before it breaks one, and so it is
-- told, whatever stands behind it
pub record EndsAt (keeps : Bool) (held held' : Option (List ℕ)) (reader : RowReader) (row : ℕ) (c : Refusal) : Type 0 where
  pub first : ℕ
  pub done : List Row
  pub kept : reader.keeps ≡ keeps
  pub read : HasRead held held' first done reader
  pub refused : (more : List Row) → trace_verdict reader.header first (done ++ more) ≡ Some (row, c)
  pub told : IsToldSoFar keeps held held' (Ok (Some (row, c)))
