-- How far a reader of rows has come, and what is answered where it begins
use Rattle.std.specs.Prelude.{◌≡◌, ◌≤◌, ℕ, Bool, true, false, List, [], ◌++◌, Option, Result, Ok, Err}
use Rattle.line_text.specs.Lines.{lines_of}
use Rattle.traces.specs.declared.row.Row.{Row}
use Rattle.trace_reader.specs.Reading.{State, behind_row, next_number}
use Rattle.trace_reader.specs.declared.row_reader.fault.StreamFault.{StreamFault}
use Rattle.trace_reader.specs.declared.row_reader.fault.StreamFault.TheVariants.{Line, Device, Memory}
use Rattle.trace_reader.specs.declared.row_reader.reader.RowReader.{RowReader}
use Rattle.trace_reader.specs.Streaming.Ahead.{IsFilled, IsHeld, OfText, ahead_of}
use Rattle.trace_reader.specs.Streaming.RowByRow.{Progress, opened, opened_in, with_rows}

abbrev pub progress_of : RowReader → Progress
progress_of r = record {
  read = record { lines = r.lines; version = r.header.version; size = r.header.context_size; rings = r.header.rings; begun = true; later = r.later.items; keeps = r.keeps };
  ended = r.ended;
}

-- all rows are kept in memory
abbrev pub keeps_rows : RowReader → Bool
keeps_rows r = r.keeps

-- the same trace is read on
abbrev pub IsSameTrace : RowReader → RowReader → Type 0
IsSameTrace r r' = (r'.header ≡ r.header) × (r'.keeps ≡ r.keeps)

-- what was read before the first row is what the definition says, or the first bad line is told
abbrev pub IsOpened : Bool → Option (List ℕ) → Option (List ℕ) → Result RowReader StreamFault → Type 0
IsOpened keeps held held' (Ok reader) =
    (keeps_rows reader ≡ keeps) × OfText reader.ended held held' [] (ahead_of reader.ahead) (λ text left. opened keeps text ≡ Ok (progress_of reader, left))
IsOpened keeps held held' (Err (Line line fault)) = OfText true held held' [] [] (λ text left. opened keeps text ≡ Err (line, fault))
IsOpened keeps held held' (Err Device) = Unit {0}
IsOpened keeps held held' (Err Memory) = Unit {0}

-- a line before the first row was read and it goes on behind it; or it says a row, and is left; or it is bad
abbrev pub IsTold : State → List ℕ → State → List ℕ → Result Bool StreamFault → Type 0
IsTold st ahead next left (Ok false) =
    (next.later ≡ st.later) × (next.lines ≡ next_number st)
    × ((later : List ℕ) → opened_in st (lines_of (ahead ++ later)) (ahead ++ later) ≡ opened_in next (lines_of (left ++ later)) (left ++ later))
    × (next.keeps ≡ st.keeps)
IsTold st ahead next left (Ok true) =
    ((row : Row) × (next ≡ behind_row st row)) × (2 ≤ st.lines)
    × ((later : List ℕ) → opened_in st (lines_of (ahead ++ later)) (ahead ++ later) ≡ Ok (with_rows st false, left ++ later))
IsTold st ahead next left (Err (Line line fault)) =
    (held : Option (List ℕ)) → IsFilled true held ahead →
    (later : List ℕ) × IsHeld held later × (opened_in st (lines_of (ahead ++ later)) (ahead ++ later) ≡ Err (line, fault))
IsTold st ahead next left (Err Device) = ⊥
IsTold st ahead next left (Err Memory) = Unit {0}
