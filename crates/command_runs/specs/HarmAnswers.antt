-- What is right to answer of a row that breaks a rule, with a run that does harm or without
use Rattle.std.specs.Prelude.{◌≡◌, ℕ, ◌+◌, ◌-◌, Bool, true, false, List, Option, Some, None, Ok, IfSome, slice_get}
use Rattle.traces.specs.declared.step.Step.{Step}
use Rattle.trace_reader.specs.Schedules.{schedule_of}
use Rattle.trace_reader.specs.ScheduleSpelling.{printed_schedule}
use Rattle.trace_reader.specs.TraceOfText.{TraceText}
use Rattle.ownership_rules.specs.Rules.{trace_verdict}
use Rattle.replayer.specs.Schedules.Harmful.{DoesHarm}
use Rattle.replayer.specs.Schedules.Tried.{IsNoRead, NoneDoesHarm}
use Rattle.replayer.specs.declared.scheduler.harmful.Search.TheVariants.{Brief}
use Rattle.answers.specs.declared.answer.FoundHarm.{FoundHarm}
use Rattle.answers.specs.declared.answer.Answer.{Answer}
use Rattle.answers.specs.declared.answer.Answer.TheVariants.{Refused, HarmShown, Memory}

-- the text is a schedule, and is read as that: a run beside the trace that goes no further than this row and does this harm with its last step
pub record IsHarmText (trace : TraceText) (row : ℕ) (found : FoundHarm) : Type 0 where
  pub steps : List Step
  pub printed : found.schedule.items ≡ printed_schedule steps
  pub reread : schedule_of found.schedule.items ≡ Ok steps
  pub harms : DoesHarm trace.header trace.rows (row - trace.first + 1) steps found.harm

-- the run that was found; where none was, and the row reads no event, none of the schedules that each search tries does harm
abbrev pub IsHarmFound : TraceText → ℕ → Option FoundHarm → Type 0
IsHarmFound trace row None =
    (refused : ℕ) → row ≡ trace.first + refused →
    IfSome (slice_get trace.rows refused) (λ r. IsNoRead r → NoneDoesHarm trace.header trace.rows refused Brief)
IsHarmFound trace row (Some found) = IsHarmText trace row found

-- the first row that breaks a rule, and the least rule that it breaks; with a run that does harm, where that was asked for; or that memory
-- was wanted
abbrev pub IsRefusalTold : Bool → TraceText → Answer → Type 0
IsRefusalTold shows trace (Refused row refusal) = (shows ≡ false) × (trace_verdict trace.header trace.first trace.rows ≡ Some (row, refusal))
IsRefusalTold shows trace (HarmShown row refusal harm) =
    (shows ≡ true) × (trace_verdict trace.header trace.first trace.rows ≡ Some (row, refusal)) × IsHarmFound trace row harm
IsRefusalTold shows trace Memory = Unit {0}
IsRefusalTold shows trace _ = ⊥
