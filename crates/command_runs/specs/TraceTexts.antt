-- What the text of a trace says, and what is right to answer to it
use Rattle.std.specs.Prelude.{Bool, ◌≡◌, ◌⊎◌, ℕ, List, Option, Some, None, Ok, Err}
use Rattle.trace_reader.specs.Reading.{trace_of}
use Rattle.trace_reader.specs.TraceOfText.{TraceText}
use Rattle.trace_reader.specs.declared.fault.LineFault.{LineFault}
use Rattle.answers.specs.declared.answer.Answer.{Answer}
use Rattle.answers.specs.declared.answer.Answer.TheVariants.{BadLine, Memory, Device}

-- the known bytes of an input spell the trace, which may have more lines where not `keeps`; of bytes that aren't known nothing is said
abbrev pub IsTextOf : Bool → Option (List ℕ) → TraceText → Type 0
IsTextOf keeps None trace = Unit {0}
IsTextOf keeps (Some bytes) trace = trace_of keeps bytes ≡ Ok trace

-- the first bad line of the known bytes of an input, and the least of its faults
abbrev pub IsFirstBad : Bool → Option (List ℕ) → ℕ → LineFault → Type 0
IsFirstBad keeps None line fault = Unit {0}
IsFirstBad keeps (Some bytes) line fault = trace_of keeps bytes ≡ Err (line, fault)

-- what is right to answer where no trace is read: its first bad line, or that memory or the device failed
abbrev pub IsUnread : Bool → Option (List ℕ) → Answer → Type 0
IsUnread keeps known (BadLine line fault) = IsFirstBad keeps known line fault
IsUnread keeps known Memory = Unit {0}
IsUnread keeps known Device = Unit {0}
IsUnread keeps known _ = ⊥

-- what is right to answer to the text of a trace: that none is read, or what is right of the trace that the text spells
abbrev pub IsTraceAnswer : Bool → (TraceText → Answer → Type 0) → Option (List ℕ) → Answer → Type 0
IsTraceAnswer keeps IsRight known answer = IsUnread keeps known answer ⊎ ((trace : TraceText) × IsTextOf keeps known trace × IsRight trace answer)
