-- What is right to answer to the text of a trace whose lazy schedule is asked for
use Rattle.std.specs.Prelude.{true, ◌≡◌, ℕ, List, reverse, Option, Some, Ok}
use Rattle.trace_reader.specs.TraceOfText.{TraceText}
use Rattle.trace_reader.specs.Schedules.{schedule_of}
use Rattle.trace_reader.specs.ScheduleSpelling.{printed_schedule}
use Rattle.controller_model.specs.Showing.{scene_replayed}
use Rattle.world_state.specs.Replays.{NoHarm}
use Rattle.ownership_checker.specs.RingPasses.Clean.{AreClean}
use Rattle.ownership_rules.specs.Rules.{trace_verdict}
use Rattle.safety.specs.LazyRuns.LateEvents.{IsTimely}
use Rattle.safety.specs.LazyRuns.Law.{ContainsAll}
use Rattle.safety.specs.LazyRuns.Lazy.{lazy_steps}
use Rattle.answers.specs.declared.answer.Answer.{Answer}
use Rattle.answers.specs.declared.answer.Answer.TheVariants.{Scheduled, Refused, Memory}
use Rattle.command_runs.specs.TraceTexts.{IsTraceAnswer}

-- the text is the lazy schedule of a trace that breaks no rule, and is read as that; where no event is late, it is a run of the
-- controller's model that contains all rows, and its replay does no harm
pub record IsLazySchedule (trace : TraceText) (text : List ℕ) : Type 0 where
  pub clean : AreClean trace.header (reverse trace.rows)
  pub printed : text ≡ printed_schedule (lazy_steps trace.header trace.rows)
  pub reread : schedule_of text ≡ Ok (lazy_steps trace.header trace.rows)
  pub runs : IsTimely trace.header (reverse trace.rows) → ContainsAll trace.header trace.rows (reverse (lazy_steps trace.header trace.rows))
  pub harmless : IsTimely trace.header (reverse trace.rows) → (scene_replayed trace.header trace.rows (lazy_steps trace.header trace.rows)).ending ≡ NoHarm

-- what is right to answer of a trace: its lazy schedule; its first row that breaks a rule, and the least rule that it breaks; or that
-- memory was wanted
abbrev pub IsScheduled : TraceText → Answer → Type 0
IsScheduled trace (Scheduled schedule) = IsLazySchedule trace schedule.items
IsScheduled trace (Refused row refusal) = trace_verdict trace.header trace.first trace.rows ≡ Some (row, refusal)
IsScheduled trace Memory = Unit {0}
IsScheduled trace _ = ⊥

-- what is right to answer to the text of a trace
abbrev pub IsScheduleAnswer : Option (List ℕ) → Answer → Type 0
IsScheduleAnswer rows answer = IsTraceAnswer true IsScheduled rows answer
