-- What is shown of a trace, and which rows may be asked for
use Rattle.std.specs.Prelude.{◌≡◌, ◌⊎◌, ℕ, ◌+◌, ◌-◌, ◌<◌, ◌≤◌, length, take, Option, Some, None}
use Rattle.trace_reader.specs.TraceOfText.{TraceText}
use Rattle.ownership_rules.specs.declared.refusal.Refusal.{Refusal}
use Rattle.ownership_rules.specs.Rules.{trace_verdict}
use Rattle.knowledge_page.specs.Standing.{IsStanding}
use Rattle.knowledge_page.specs.declared.standing.Standing.{Standing}
use Rattle.knowledge_page.specs.declared.shown.Place.{Place}
use Rattle.knowledge_page.specs.declared.shown.Place.TheVariants.{Refused, Row, End}
use Rattle.knowledge_page.specs.declared.shown.ShowFault.{ShowFault}
use Rattle.knowledge_page.specs.declared.shown.ShowFault.TheVariants.{NoRow, Memory}
use Rattle.knowledge_page.specs.declared.shown.Shown.{Shown}

-- the row of this line is one of the trace, and this stands behind the rows before it
pub record IsBefore (trace : TraceText) (row : ℕ) (s : Standing) : Type 0 where
  pub from : trace.first ≤ row
  pub within : row < trace.first + length trace.rows
  pub standing : IsStanding trace.header trace.first (take (row - trace.first) trace.rows) s

-- the first row of a trace that breaks a rule, by its line, and the least rule that it breaks
abbrev pub verdict_on : TraceText → Option (ℕ × Refusal)
verdict_on trace = trace_verdict trace.header trace.first trace.rows

-- where a page stands that was asked for so: before the row that was named; where none was, before the first that breaks a rule, with
-- the least rule that it breaks, or behind all rows
abbrev pub IsPlaced : TraceText → Option ℕ → Place → Standing → Type 0
IsPlaced trace (Some asked) (Row row) s = (row ≡ asked) × IsBefore trace row s
IsPlaced trace None (Refused row c) s = (verdict_on trace ≡ Some (row, c)) × IsBefore trace row s
IsPlaced trace None End s = IsStanding trace.header trace.first trace.rows s
IsPlaced _ _ _ _ = ⊥

abbrev pub IsShown : TraceText → Option ℕ → Shown → Type 0
IsShown trace asked shown = IsPlaced trace asked shown.place shown.standing

-- a range of rows that is told; want of memory tells none
abbrev pub IfNoRow : ShowFault → (ℕ → ℕ → Type 0) → Type 0
IfNoRow (NoRow first last) P = P first last
IfNoRow Memory P = Unit {0}

-- the last row that may be asked for, by the verdict on all rows: the first that breaks a rule, or else the one before `behind`
abbrev pub IsLast : Option (ℕ × Refusal) → ℕ → ℕ → Type 0
IsLast (Some broken) behind last = last ≡ broken.0
IsLast None behind last = last + 1 ≡ behind

-- from the first row to the first that breaks a rule, or to the last of all
pub record IsRange (trace : TraceText) (first last : ℕ) : Type 0 where
  pub begins : first ≡ trace.first
  pub ends : IsLast (verdict_on trace) (trace.first + length trace.rows) last

-- a row was named, and it is none of these
abbrev pub IsOutside : Option ℕ → ℕ → ℕ → Type 0
IsOutside (Some row) first last = (row < first) ⊎ (last < row)
IsOutside None _ _ = ⊥

-- the row that was asked for is none of those that may be asked for, which are told
pub record IsNoRow (trace : TraceText) (asked : Option ℕ) (first last : ℕ) : Type 0 where
  pub range : IsRange trace first last
  pub outside : IsOutside asked first last
