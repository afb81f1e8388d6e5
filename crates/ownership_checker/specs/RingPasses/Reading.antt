-- What a pass over the rows of a trace comes to, between which rings come and go, and descriptors are withdrawn
use Rattle.std.specs.Prelude.{◌≡◌, ◌≤◌, ℕ, ◌+◌, Bool, List, [], Option, None, Ok, length, reverse}
use Rattle.traces.specs.declared.header.Header.{Header}
use Rattle.traces.specs.declared.row.Row.{Row}
use Rattle.trace_reader.specs.Reading.{trace_of}
use Rattle.trace_reader.specs.TraceOfText.{TraceText}
use Rattle.trace_reader.specs.Streaming.Streams.{OfStream}
use Rattle.trace_reader.specs.declared.row_reader.reader.RowReader.{RowReader}
use Rattle.ownership_rules.specs.declared.refusal.Refusal.{Refusal}
use Rattle.leases.specs.LeaseBooks.Lents.{Lent, lents}
use Rattle.ring_knowledge.specs.Histories.{header_now}
use Rattle.ownership_checker.specs.RingPasses.Accepted.{WalksRead}
use Rattle.safety.specs.Harmless.{DoNoHarm}
use Rattle.ownership_rules.specs.Leases.{without_end}
use Rattle.ownership_rules.specs.Rules.{trace_verdict}
use Rattle.ownership_checker.specs.declared.pass.reading.Passed.{Passed}
use Rattle.ownership_checker.specs.declared.pass.reading.Passed.TheVariants.{Whole, Refused}

-- so it is of a trace that this text says, whose rows are all kept or not
abbrev pub OfTrace : Bool → Option (List ℕ) → Option (List ℕ) → (TraceText → Type 0) → Type 0
OfTrace keeps held held' P = (trace : TraceText) × OfStream held held' (λ text. trace_of keeps text ≡ Ok trace) × P trace

-- the log keeps the leases that stand before the first row
abbrev pub Begins : {B : Type 0} → (Header → List Lent → B → Type 0) → RowReader → B → Type 0
Begins Holds reader log = (first : ℕ) → Holds reader.header (lents reader.header first []) log

-- no row of the trace breaks a rule, a walk behind any of them reads what was declared, no run beside them does harm, no row has the number of
-- none, and the log keeps their leases
pub record IsWholeLog {B : Type 0} (Holds : Header → List Lent → B → Type 0) (trace : TraceText) (log : B) : Type 0 where
  pub verdict : trace_verdict trace.header trace.first trace.rows ≡ None
  pub walk : WalksRead trace.header trace.rows
  pub harmless : DoNoHarm trace.header trace.rows
  pub room : trace.first + length trace.rows ≤ without_end
  pub kept : Holds (header_now trace.header (reverse trace.rows)) (lents trace.header trace.first (reverse trace.rows)) log

-- a trace that was passed whole
abbrev pub IfWhole : {B : Type 0} → Passed B → (B → Type 0) → Type 0
IfWhole (Whole log) P = P log
IfWhole (Refused row c) P = Unit {0}

-- a row that was refused
abbrev pub IfRefusedRow : {B : Type 0} → Passed B → (ℕ → Refusal → Type 0) → Type 0
IfRefusedRow (Whole log) P = Unit {0}
IfRefusedRow (Refused row c) P = P row c

-- what a reader's header and rows make
abbrev pub with_rows : RowReader → ℕ → List Row → TraceText
with_rows reader first rows = record { header = reader.header; first = first; rows = rows }
