-- A row that breaks no rule, for a log of leases
use Rattle.std.specs.Prelude.{◌≡◌, ℕ, List, []}
use Rattle.traces.specs.declared.header.Header.{Header}
use Rattle.traces.specs.declared.row.Row.{Row}
use Rattle.traces.specs.declared.row.Row.TheVariants.{Write, Read}
use Rattle.ring_knowledge.specs.Known.{Known}
use Rattle.ownership_rules.specs.LenientRules.{lenient}
use Rattle.leases.specs.LeaseBooks.InStep.{IsInStep}
use Rattle.leases.specs.declared.book.ranges.RangeIndexes.{RangeIndexes}
use Rattle.leases.specs.LeaseBooks.Lents.{Lent}
use Rattle.leases.specs.LeaseBooks.Ranges.{FindsRanges}
use Rattle.leases.specs.LeaseRows.LeftBehind.{TablesFit}
use Rattle.safety.specs.Keeps.{DriverKeeps}
use Rattle.trace_record.specs.declared.trace_record.TraceRecord.{TraceRecord}
use Rattle.trace_record.specs.FollowsTrace.{FollowsTrace}

-- a row comes that breaks no rule: the record and the memory hold what is known before it, the driver has kept the rules, and what is lent
-- is in step with that
pub record IsNextRow (h : Header) (k : Known) (ts : List Lent) (row : Row) (t : TraceRecord) (memory : ℕ → ℕ) : Type 0 where
  pub followed : FollowsTrace h k t memory
  pub keeps : DriverKeeps h k
  pub tables : TablesFit k
  pub step : IsInStep h k ts
  pub clean : lenient h k row ≡ []

-- the row is no write of memory and no event
abbrev pub IsOtherRow : Row → Type 0
IsOtherRow (Write a w) = ⊥
IsOtherRow (Read b) = ⊥
IsOtherRow _ = Unit {0}

-- the log keeps what was and is lent, and the indexes find the ranges among it
pub record HoldsAll {B : Type 0} (Holds : Header → List Lent → B → Type 0) (h : Header) (ts : List Lent) (book : B) (ranges : RangeIndexes) : Type 0 where
  pub held : Holds h ts book
  pub found : FindsRanges h ts ranges
