-- What the check of a trace answers
use Rattle.std.specs.Prelude.{ℕ}
use Rattle.ownership_rules.specs.declared.refusal.Refusal.{Refusal}
use Rattle.ownership_checker.specs.declared.fault.CheckFault.{CheckFault}
use Rattle.ownership_checker.specs.declared.fault.CheckFault.TheVariants.{Refused, Memory}

-- a refused row of a trace, by its number
abbrev pub IfRefusedAt : CheckFault → (ℕ → Refusal → Type 0) → Type 0
IfRefusedAt (Refused row c) P = P row c
IfRefusedAt Memory P = Unit {0}
