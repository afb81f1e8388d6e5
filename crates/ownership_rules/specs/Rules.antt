-- All rules: which of them a row breaks, and the verdict on a trace
use Rattle.std.specs.Prelude.{ℕ, ◌+◌, ◌++◌, ◌||◌, if◌then◌else◌, List, [], ◌∷◌, map, Option, Some, None}
use Rattle.traces.specs.declared.header.Header.{Header}
use Rattle.traces.specs.declared.row.Row.{Row}
use Rattle.traces.specs.declared.row.Row.TheVariants.{Sub, Write, Reg, Bell, Read, Ring as RingRow, Free as FreeRow, Nop as NopRow, RegRead}
use Rattle.traces.specs.LivingRings.{header_after}
use Rattle.ring_knowledge.specs.Known.{Known, nothing}
use Rattle.ring_knowledge.specs.Histories.{known_after, restored, ring_restored}
use Rattle.ownership_rules.specs.Refusal.{Test, broken_of}
use Rattle.ownership_rules.specs.declared.refusal.Refusal.{Refusal}
use Rattle.ownership_rules.specs.declared.refusal.Refusal.TheVariants.{AfterStop, BadFree, BadRing, BadWithdraw, NotRestored, WriteToOwned}
use Rattle.ownership_rules.specs.Declarations.{declaration_tests}
use Rattle.ownership_rules.specs.Writes.{write_tests}
use Rattle.ownership_rules.specs.Registers.{read_tests, register_tests}
use Rattle.ownership_rules.specs.Doorbells.{doorbell_tests}
use Rattle.ownership_rules.specs.Events.{event_tests}
use Rattle.ownership_rules.specs.Rings.{is_bad_free, is_bad_ring}
use Rattle.ownership_rules.specs.Withdrawals.{is_bad_withdraw, is_left, some_flips}
use Rattle.ownership_rules.specs.Older.{stricter}

unfoldable pub first_or : List Refusal → ℕ → Option (ℕ × Refusal) → Option (ℕ × Refusal)
first_or [] n later = later
first_or (c ∷ cs) n later = Some (n, c)

module _ (h : Header) where
  -- the rules for a row's kind, in ascending order of their numbers, as lenient as any version has them: what a harm needs
  unfoldable pub lenient_tests : Known → Row → List Test
  lenient_tests k (Sub r blocks) = declaration_tests h k r blocks
  lenient_tests k (Write a w) = write_tests h k a w
  lenient_tests k (Reg r v) = register_tests h k r v
  lenient_tests k (Bell s t) = doorbell_tests h k s t
  lenient_tests k (Read b) = event_tests h k b
  lenient_tests k (RingRow ring) = (BadRing, is_bad_ring h k ring) ∷ []
  lenient_tests k (FreeRow id) = (BadFree, is_bad_free h k id) ∷ []
  lenient_tests k (NopRow r p) = (BadWithdraw, is_bad_withdraw h k r p) ∷ []
  lenient_tests k (RegRead r v) = read_tests h k r v

  -- the rules of the trace's version
  unfoldable pub tests : Known → Row → List Test
  tests k row = map (λ t. (t.0, stricter h k row t.0 || t.1)) (lenient_tests k row)

  -- the rules for its kind that a row breaks; after the stop every row breaks one, and nothing else is tested
  unfoldable pub broken : Known → Row → List Refusal
  broken k row = if k.stopped then AfterStop ∷ [] else broken_of (tests k row)

  -- the rules of a row behind which what it starts or moves is the controller's again: the Cycle bit of a block that is free, and that the
  -- controller may have passed, is written as if that were under lease
  abbrev pub broken_restored : Known → Row → List Refusal
  broken_restored k row = broken_of ((WriteToOwned, some_flips h k row) ∷ []) ++ broken k row

  -- the rules that a row breaks. Where the ring that it starts or moves doesn't stand as declared it breaks that rule too
  abbrev pub row_broken : Known → Row → List Refusal
  row_broken k row =
      if k.stopped then AfterStop ∷ []
      else if is_left h k (ring_restored h k row) then broken k row ++ NotRestored ∷ []
      else broken_restored (restored h k row) row

-- the first row that breaks a rule, and the least of these, each judged by the rings that are there and what is known then; n is the number
-- of the first row
unfoldable pub verdict_from : Header → Known → ℕ → List Row → Option (ℕ × Refusal)
verdict_from h k n [] = None
verdict_from h k n (row ∷ rows) = first_or (row_broken h k row) n (verdict_from (header_after h row) (known_after h k row) (n + 1) rows)

-- the verdict on the rows behind a header
abbrev pub trace_verdict : Header → ℕ → List Row → Option (ℕ × Refusal)
trace_verdict h first rows = verdict_from h nothing first rows
