-- How far a pass has come over rows between which rings come and go, and descriptors are withdrawn
use Rattle.std.specs.Prelude.{◌≡◌, ℕ, false, List, length}
use Rattle.segments.specs.RingKeeps.{IsRestored}
use Rattle.traces.specs.declared.header.Header.{Header}
use Rattle.traces.specs.declared.row.Row.{Row}
use Rattle.traces.specs.AllowedHeaders.{IsHeader}
use Rattle.ring_knowledge.specs.Known.{Known}
use Rattle.trace_record.specs.RingFinder.Finding.{IsFinder}
use Rattle.ring_knowledge.specs.Histories.{header_now, known_now}
use Rattle.trace_record.specs.Fresh.{IsWithin}
use Rattle.ownership_checker.specs.JudgedRows.Tracking.{IsTracked}
use Rattle.safety.specs.RingChanges.Histories.{MayBegin}
use Rattle.leases.specs.LeaseBooks.Lents.{Lent, lents}
use Rattle.leases.specs.LeaseRows.CleanRows.{HoldsAll}
use Rattle.leases.specs.LeaseRows.LeftBehind.{TablesFit}
use Rattle.ownership_checker.specs.RingPasses.Clean.{AreClean}
use Rattle.ownership_checker.specs.declared.pass.ring_pass.RingPass.{RingPass}

-- of no ring is anything the driver's that was handed over
abbrev pub NothingFree : Known → Type 0
NothingFree k = (r : ℕ) → IsRestored (k.ring r)

-- the rows so far, the newest first, break no rule; the header is that of the rings that are there behind them, and the record and the
-- memory hold what is known then; `h` is the header before the first
pub record IsRingPassed {B M : Type 0} (words : M → ℕ → ℕ) (h : Header) (past : List Row) (pass : RingPass B M) : Type 0 where
  pub opening : MayBegin h
  pub header : pass.header ≡ header_now h past
  pub headed : IsHeader pass.header
  pub found : IsFinder pass.header.rings pass.finder
  pub few_reads : IsWithin pass.record.events (length past)
  pub tracked : IsTracked pass.header (known_now h past) pass.record (words pass.memory)
  pub tables : TablesFit (known_now h past)
  pub clean : AreClean h past
  pub unwithdrawn : pass.has_withdrawn ≡ false → NothingFree (known_now h past)

-- the log keeps the leases of the rows so far, the newest first, and the indexes find the ranges among them; `first` is the number of the
-- oldest row
abbrev pub IsRingLogged : {B M : Type 0} → (Header → List Lent → B → Type 0) → Header → ℕ → List Row → RingPass B M → Type 0
IsRingLogged Holds h first past pass = HoldsAll Holds (header_now h past) (lents h first past) pass.log pass.ranges
