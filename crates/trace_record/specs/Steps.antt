-- What the check of one row answers
use Rattle.std.specs.Prelude.{◌≡◌, ℕ, [], Some}
use Rattle.traces.specs.declared.header.Header.{Header}
use Rattle.traces.specs.declared.row.Row.{Row}
use Rattle.ring_knowledge.specs.Known.{Known}
use Rattle.ring_knowledge.specs.LearnedOrReset.{learned_or_reset}
use Rattle.ownership_rules.specs.declared.refusal.Refusal.{Refusal}
use Rattle.ownership_rules.specs.FirstBroken.{first_of}
use Rattle.ownership_rules.specs.Rules.{broken}
use Rattle.trace_record.specs.declared.fault.StepFault.{StepFault}
use Rattle.trace_record.specs.declared.fault.StepFault.TheVariants.{Refused, Memory}
use Rattle.trace_record.specs.declared.trace_record.TraceRecord.{TraceRecord}
use Rattle.trace_record.specs.FollowsTrace.{FollowsTrace}

-- the row breaks no rule, and the record and the memory hold what is known after it
pub record IsRowStep (h : Header) (k : Known) (row : Row) (after : TraceRecord) (memory : ℕ → ℕ) : Type 0 where
  pub clean : broken h k row ≡ []
  pub followed : FollowsTrace h (learned_or_reset h k row) after memory

-- the least of the rules that the row breaks is this one
abbrev pub IsLeast : Header → Known → Row → Refusal → Type 0
IsLeast h k row c = first_of (broken h k row) ≡ Some c

-- what a refusal says; want of memory says nothing
abbrev pub IfRefused : StepFault → (Refusal → Type 0) → Type 0
IfRefused (Refused c) P = P c
IfRefused Memory P = Unit {0}
