-- What the check of a row rests on and says, in terms of what is known after the rows so far
use Rattle.std.specs.Prelude.{◌≡◌, ℕ, false}
use Rattle.traces.specs.declared.header.Header.{Header}
use Rattle.traces.specs.declared.row.Row.{Row}
use Rattle.ring_knowledge.specs.Known.{Known}
use Rattle.ownership_rules.specs.declared.refusal.Refusal.{Refusal}
use Rattle.safety.specs.Keeps.{DriverKeeps}
use Rattle.trace_record.specs.declared.trace_record.TraceRecord.{TraceRecord}
use Rattle.trace_record.specs.FollowsTrace.{FollowsTrace}
use Rattle.trace_record.specs.Steps.{IsLeast, IsRowStep}

-- the record and the memory hold what is known, and until the stop the driver keeps what follows from its keeping the rules
pub record IsTracked (h : Header) (k : Known) (kept : TraceRecord) (memory : ℕ → ℕ) : Type 0 where
  pub follows : FollowsTrace h k kept memory
  pub keeps : k.stopped ≡ false → DriverKeeps h k

-- of all that the record and the memory may hold before the stop, of a driver that has kept the rules so far: the row breaks none, and
-- this record and this memory hold what is known after it
abbrev pub IsStepFrom : Header → TraceRecord → (ℕ → ℕ) → Row → TraceRecord → (ℕ → ℕ) → Type 0
IsStepFrom h before memory row after later = (k : Known) → FollowsTrace h k before memory → DriverKeeps h k → k.stopped ≡ false → IsRowStep h k row after later

-- the same of a row of which this is the least rule that it breaks
abbrev pub IsLeastFrom : Header → TraceRecord → (ℕ → ℕ) → Row → Refusal → Type 0
IsLeastFrom h before memory row c = (k : Known) → FollowsTrace h k before memory → DriverKeeps h k → k.stopped ≡ false → IsLeast h k row c
