-- A pass over rows that are kept in memory, and what stands behind them
use Rattle.std.specs.Prelude.{◌≡◌, ◌≤◌, ℕ, ◌+◌, List, [], None, length, reverse}
use Rattle.traces.specs.AllowedHeaders.{IsHeader}
use Rattle.traces.specs.declared.header.Header.{Header}
use Rattle.traces.specs.declared.row.Row.{Row}
use Rattle.ring_knowledge.specs.declared.lease.Lease.{Lease}
use Rattle.trace_record.specs.FollowsTrace.{FollowsTrace}
use Rattle.leases.specs.LeaseBooks.Lents.{Lent, lents}
use Rattle.ring_knowledge.specs.Histories.{header_now, known_now}
use Rattle.ownership_checker.specs.RingPasses.Accepted.{WalksRead}
use Rattle.ownership_checker.specs.RingPasses.Clean.{AreClean}
use Rattle.safety.specs.Harmless.{DoNoHarm}
use Rattle.ownership_checker.specs.RingPasses.Passing.{IsRingLogged, IsRingPassed}
use Rattle.ownership_rules.specs.Leases.{without_end}
use Rattle.ownership_rules.specs.Rules.{trace_verdict}
use Rattle.ownership_checker.specs.declared.pass.behind.Behind.{Behind}
use Rattle.ownership_checker.specs.declared.pass.ring_pass.RingPass.{RingPass}

-- no row breaks a rule, a walk behind any of them reads what was declared, no run beside them does harm, and no row has the number of none; the
-- pass stands behind them, and its log keeps their leases where it kept those that stand before the first
pub record IsBehindAll {B M : Type 0} (words : M → ℕ → ℕ) (Holds : List Lease → Header → List Lent → B → Type 0) (h : Header) (first : ℕ) (rows : List Row) (log : B)
    (pass : RingPass B M) : Type 0 where
  pub verdict : trace_verdict h first rows ≡ None
  pub walk : WalksRead h rows
  pub harmless : DoNoHarm h rows
  pub room : first + length rows ≤ without_end
  pub passed : IsRingPassed words h (reverse rows) pass
  pub logged : (list : List Lease) → Holds list h (lents h first []) log → IsRingLogged (Holds list) h first (reverse rows) pass

-- the header is that of the rings that are there behind the rows so far, the newest first, and the record and the memory hold what is known then
pub record IsBehind {B M : Type 0} (words : M → ℕ → ℕ) (h : Header) (past : List Row) (behind : Behind B M) : Type 0 where
  pub clean : AreClean h past
  pub header : behind.header ≡ header_now h past
  pub headed : IsHeader behind.header
  pub followed : FollowsTrace behind.header (known_now h past) behind.kept (words behind.memory)
