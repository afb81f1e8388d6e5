-- What stands behind rows that break no rule
use Rattle.std.specs.Prelude.{◌≡◌, ℕ, List, None, reverse}
use Rattle.guest_memory.specs.Page.{word_in}
use Rattle.traces.specs.declared.header.Header.{Header}
use Rattle.traces.specs.declared.row.Row.{Row}
use Rattle.trace_record.specs.FollowsTrace.{FollowsTrace}
use Rattle.ring_knowledge.specs.Histories.{header_now, known_now}
use Rattle.ownership_checker.specs.RingPasses.Clean.{AreClean}
use Rattle.ownership_rules.specs.Leases.{leases as leases_of}
use Rattle.ownership_rules.specs.Rules.{trace_verdict}
use Rattle.knowledge_page.specs.declared.standing.Standing.{Standing}

-- no row breaks a rule; the header lists the rings that are there behind them, the record and the memory hold what is known then, and the leases are
-- theirs
pub record IsStanding (h : Header) (first : ℕ) (rows : List Row) (s : Standing) : Type 0 where
  pub clean : AreClean h (reverse rows)
  pub verdict : trace_verdict h first rows ≡ None
  pub header : s.header ≡ header_now h (reverse rows)
  pub followed : FollowsTrace s.header (known_now h (reverse rows)) s.kept (word_in s.memory)
  pub leased : s.leases.items ≡ leases_of h first rows
