-- What is right to answer to the texts of a trace and of a schedule
use Rattle.std.specs.Prelude.{true, ◌≡◌, ℕ, List, Option, Some, None, Ok, Err}
use Rattle.traces.specs.declared.schedule.Schedule.{Schedule}
use Rattle.trace_reader.specs.TraceOfText.{TraceText}
use Rattle.trace_reader.specs.Schedules.{schedule_of}
use Rattle.trace_reader.specs.declared.fault.LineFault.{LineFault}
use Rattle.controller_model.specs.Showing.{scene_replayed}
use Rattle.world_state.specs.Replays.{Ending, NoHarm as EndsSafe, NotPossible as Stuck, Harmful as Harms}
use Rattle.answers.specs.declared.replay_lines.ReplayEnd.{ReplayEnd}
use Rattle.answers.specs.declared.replay_lines.ReplayEnd.TheVariants.{NoHarm, Harmful, NotPossible}
use Rattle.answers.specs.declared.answer.Answer.{Answer}
use Rattle.answers.specs.declared.answer.Answer.TheVariants.{Replayed, BadLine, Memory, Device}
use Rattle.command_runs.specs.TraceTexts.{IsTraceAnswer}

-- the known bytes of an input spell the schedule; of bytes that aren't known nothing is said
abbrev pub IsScheduleIn : Option (List ℕ) → Schedule → Type 0
IsScheduleIn None schedule = Unit {0}
IsScheduleIn (Some bytes) schedule = schedule_of bytes ≡ Ok schedule.steps

-- the first bad line of the known bytes of an input, and the least of its faults
abbrev pub IsFirstBadStep : Option (List ℕ) → ℕ → LineFault → Type 0
IsFirstBadStep None line fault = Unit {0}
IsFirstBadStep (Some bytes) line fault = schedule_of bytes ≡ Err (line, fault)

-- an ending as the definitions have it
abbrev pub ending_as : ReplayEnd → Ending
ending_as NoHarm = EndsSafe
ending_as (Harmful step harm) = Harms step harm
ending_as (NotPossible step) = Stuck step

-- an answer is the replay of a schedule beside a trace, or that memory was wanted
abbrev pub IsReplayed : TraceText → Schedule → Answer → Type 0
IsReplayed trace schedule (Replayed seen ending) =
    (seen.items ≡ (scene_replayed trace.header trace.rows schedule.steps).seen) × (ending_as ending ≡ (scene_replayed trace.header trace.rows schedule.steps).ending)
IsReplayed trace schedule Memory = Unit {0}
IsReplayed trace schedule _ = ⊥

-- what is right to answer beside a trace to the text of a schedule: the replay, or the first bad line; or that memory or the device failed
abbrev pub IsReplayBeside : TraceText → Option (List ℕ) → Answer → Type 0
IsReplayBeside trace steps (Replayed seen ending) = (schedule : Schedule) × IsScheduleIn steps schedule × IsReplayed trace schedule (Replayed seen ending)
IsReplayBeside trace steps (BadLine line fault) = IsFirstBadStep steps line fault
IsReplayBeside trace steps Memory = Unit {0}
IsReplayBeside trace steps Device = Unit {0}
IsReplayBeside trace steps _ = ⊥

-- what is right to answer to the texts of a trace and of a schedule
abbrev pub IsReplayAnswer : Option (List ℕ) → Option (List ℕ) → Answer → Type 0
IsReplayAnswer rows steps answer = IsTraceAnswer true (λ trace answer. IsReplayBeside trace steps answer) rows answer
