-- What is answered where a trace has no lazy schedule
use Rattle.std.specs.Prelude.{ℕ}
use Rattle.ownership_rules.specs.declared.refusal.Refusal.{Refusal}
use Rattle.replayer.specs.declared.scheduler.fault.ScheduleFault.{ScheduleFault}
use Rattle.replayer.specs.declared.scheduler.fault.ScheduleFault.TheVariants.{Refused, Memory}

-- a refused row of the trace, by its number
abbrev pub IfRefusedAt : ScheduleFault → (ℕ → Refusal → Type 0) → Type 0
IfRefusedAt (Refused row c) P = P row c
IfRefusedAt Memory P = Unit {0}
