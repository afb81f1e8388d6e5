-- Rows by which rings come and go, between those of the driver, that break no rule of the trace's version
use Rattle.std.specs.Prelude.{◌≡◌, List, [], ◌∷◌, Some}
use Rattle.traces.specs.declared.header.Header.{Header}
use Rattle.traces.specs.declared.row.Row.{Row}
use Rattle.ring_knowledge.specs.Known.{Known}
use Rattle.ownership_rules.specs.FirstBroken.{first_of}
use Rattle.ring_knowledge.specs.Histories.{header_now, known_now}
use Rattle.ownership_rules.specs.declared.refusal.Refusal.{Refusal}
use Rattle.ownership_rules.specs.Rules.{row_broken}

abbrev pub BreaksNone : Header → Known → Row → Type 0
BreaksNone h k row = row_broken h k row ≡ []

-- the rows so far, the newest first, break none, each judged by the rings that are there and what is known behind those before it
abbrev pub AreClean : Header → List Row → Type 0
AreClean h [] = Unit {0}
AreClean h (row ∷ past) = AreClean h past × BreaksNone (header_now h past) (known_now h past) row

-- the least of the rules that the row breaks is this one
abbrev pub IsLeastOfRow : Header → Known → Row → Refusal → Type 0
IsLeastOfRow h k row c = first_of (row_broken h k row) ≡ Some c
