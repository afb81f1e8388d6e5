-- What the calls of a reader of rows answer
use Rattle.std.specs.Prelude.{◌≡◌, ℕ, Bool, true, false, List, Option, Some, None, Result, Ok, Err}
use Rattle.traces.specs.declared.row.Row.{Row}
use Rattle.trace_reader.specs.declared.fault.LineFault.{LineFault}
use Rattle.trace_reader.specs.declared.fault.LineError.{LineError}
use Rattle.trace_reader.specs.declared.fault.LineError.TheVariants.{Fault as BadLine, Memory as NoMemory}
use Rattle.trace_reader.specs.Reading.{State, behind_row}
use Rattle.trace_reader.specs.declared.row_reader.fault.StreamFault.{StreamFault}
use Rattle.trace_reader.specs.declared.row_reader.fault.StreamFault.TheVariants.{Line, Device, Memory}
use Rattle.trace_reader.specs.Streaming.Ahead.{OfText}
use Rattle.trace_reader.specs.Streaming.RowByRow.{Progress, next_row}
use Rattle.trace_reader.specs.Streaming.Sources.{one_failure_more}

-- the fault of the line with this number
abbrev pub fault_of : ℕ → LineError → StreamFault
fault_of line (BadLine fault) = Line line fault
fault_of line NoMemory = Memory

-- the failures of the device behind a call: one more exactly where it tells one
abbrev pub told_failures : {T : Type 0} → ℕ → Result T StreamFault → ℕ
told_failures failures (Ok value) = failures
told_failures failures (Err Device) = one_failure_more failures
told_failures failures (Err (Line line fault)) = failures
told_failures failures (Err Memory) = failures

-- it is no line's fault
abbrev pub IsNoLine : StreamFault → Type 0
IsNoLine (Line line fault) = ⊥
IsNoLine Device = Unit {0}
IsNoLine Memory = Unit {0}

-- no row is answered
abbrev pub has_ended : Result (Option (ℕ × Row)) StreamFault → Bool
has_ended (Ok (Some row)) = false
has_ended (Ok None) = true
has_ended (Err fault) = true

-- an answer to the text; want of memory and a failure of the device are none
abbrev pub IfAnswered : {T : Type 0} → Result T StreamFault → (Result T (ℕ × LineFault) → Type 0) → Type 0
IfAnswered (Ok value) P = P (Ok value)
IfAnswered (Err (Line line fault)) P = P (Err (line, fault))
IfAnswered (Err Device) P = Unit {0}
IfAnswered (Err Memory) P = Unit {0}

-- the answer, how far the reading has come and the text that is left are those of the definition
abbrev pub IsCall : Progress → Progress → Option (List ℕ) → Option (List ℕ) → List ℕ → List ℕ → Result (Option (ℕ × Row)) StreamFault → Type 0
IsCall p p' held held' ahead ahead' result =
    IfAnswered result (λ answer. OfText p'.ended held held' ahead ahead' (λ text left. next_row p text ≡ record { answer = answer; progress = p'; left = left }))

-- how far the reading has come behind a line that was answered so
abbrev pub behind_answer : State → Result (Option (ℕ × Row)) StreamFault → Progress
behind_answer st (Ok (Some row)) = record { read = behind_row st row.1; ended = false }
behind_answer st (Ok None) = record { read = st; ended = true }
behind_answer st (Err fault) = record { read = st; ended = true }
