-- How a schedule is spelled, and which schedules have a text
use Rattle.std.specs.Prelude.{ℕ, ◌+◌, ◌≤◌, Bool, List, [], ◌∷◌, length, map, codes}
use Rattle.std.specs.Int.{w8, w32, w64}
use Rattle.std.specs.List.{flat_map}
use Rattle.line_text.specs.Lines.{lines_of}
use Rattle.line_text.specs.Numbers.{digits_of}
use Rattle.traces.specs.declared.step.Step.{Step}
use Rattle.traces.specs.declared.step.Step.TheVariants.{NextRow, Look, Report, Finish, Other, Scribble, Halt}
use Rattle.traces.specs.Limits.{most_schedule_lines}
use Rattle.traces.specs.Rows.{AreSteps}
use Rattle.trace_reader.specs.Spelling.{Field, Word, Digits, block_fields, lines_written, printed_line}

unfoldable pub step_fields : Step → List Field
step_fields NextRow = Word (codes "row") ∷ []
step_fields (Look ring) = Word (codes "look") ∷ Digits (digits_of w8 ring) ∷ []
step_fields (Report event) = Word (codes "report") ∷ block_fields event
step_fields (Finish event) = Word (codes "finish") ∷ block_fields event
step_fields (Other event) = Word (codes "other") ∷ block_fields event
step_fields (Scribble at word) = Word (codes "scrib") ∷ Digits (digits_of w64 at) ∷ Digits (digits_of w32 word) ∷ []
step_fields Halt = Word (codes "halt") ∷ []

abbrev pub schedule_version_fields : List Field
schedule_version_fields = Word (codes "xsched") ∷ Word (codes "1") ∷ []

-- the lines of a schedule by their fields
unfoldable pub schedule_lines : List Step → List (List Field)
schedule_lines steps = schedule_version_fields ∷ map step_fields steps

-- the text of a schedule as it is printed
unfoldable pub printed_schedule : List Step → List ℕ
printed_schedule steps = flat_map printed_line (schedule_lines steps)

-- the text spells the schedule
unfoldable pub spells_schedule : List Step → List ℕ → Bool
spells_schedule steps text = lines_written (schedule_lines steps) (lines_of text)

pub record IsSchedule (schedule : List Step) : Type 0 where
  pub steps : AreSteps schedule
  pub within : length schedule + 1 ≤ most_schedule_lines
