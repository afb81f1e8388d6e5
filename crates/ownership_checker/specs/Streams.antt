-- What the check of a trace answers that is read row by row
use Rattle.std.specs.Prelude.{ℕ, Result, Ok, Err}
use Rattle.trace_reader.specs.declared.fault.LineFault.{LineFault}
use Rattle.ownership_rules.specs.declared.refusal.Refusal.{Refusal}
use Rattle.trace_reader.specs.Streaming.Answers.{told_failures}
use Rattle.ownership_checker.specs.declared.fault.StreamCheckFault.{StreamCheckFault}
use Rattle.ownership_checker.specs.declared.fault.StreamCheckFault.TheVariants.{Refused, Unread}
pub use Rattle.trace_reader.specs.Streaming.Streams.{IfBadLine, IsBadLine, OfStream}
pub use Rattle.ownership_checker.specs.RingPasses.Accepted.{IsAccepted as IsAcceptedText, IsSound}
pub use Rattle.ownership_checker.specs.RingPasses.Reading.{OfTrace}
pub use Rattle.ownership_rules.specs.Rules.{trace_verdict}

-- a refused row, by its number
abbrev pub IfRefusedIn : StreamCheckFault → (ℕ → Refusal → Type 0) → Type 0
IfRefusedIn (Refused row c) P = P row c
IfRefusedIn (Unread fault) P = Unit {0}

-- a bad line, by its number
abbrev pub IfBadLineIn : StreamCheckFault → (ℕ → LineFault → Type 0) → Type 0
IfBadLineIn (Refused row c) P = Unit {0}
IfBadLineIn (Unread fault) P = IfBadLine fault P

-- the failures of the device behind a check: one more exactly where it tells one
abbrev pub told_in_check : {T : Type 0} → ℕ → Result T StreamCheckFault → ℕ
told_in_check failures (Ok value) = failures
told_in_check failures (Err (Refused row c)) = failures
told_in_check {T = T} failures (Err (Unread fault)) = told_failures {T = T} failures (Err fault)
