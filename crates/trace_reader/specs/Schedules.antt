-- How a schedule is read from its text: the steps of a run
use Rattle.std.specs.Prelude.{ℕ, ◌&&◌, Bool, List, [], ◌∷◌, nat_lt, Option, Some, None, Result, Err, codes, if◌then◌else◌}
use Rattle.std.specs.Str.{bytes_eq}
use Rattle.line_text.specs.Lines.{TextLine, lines_of}
use Rattle.trace_reader.specs.declared.fault.LineFault.{LineFault}
use Rattle.trace_reader.specs.declared.fault.LineFault.TheVariants.{Header as BadHeader, Limit}
use Rattle.traces.specs.declared.step.Step.{Step}
use Rattle.traces.specs.declared.step.Step.TheVariants.{NextRow, Look, Report, Finish, Other, Scribble, Halt}
use Rattle.traces.specs.Limits.{most_schedule_lines}
use Rattle.trace_reader.specs.LineByLine.{line_says, lines_say}
use Rattle.trace_reader.specs.Grammar.{Byte, Number, WordAddress, Nothing, Event, Line, FormOf, form_in, value_in}

-- 1 Header: the first line is `xsched 1`
unfoldable pub is_schedule_version : TextLine → Bool
is_schedule_version line = line.is_ended && bytes_eq line.content (codes "xsched 1")

abbrev pub row_line : Line Step
row_line = record { word = codes "row"; kinds = []; tail = Nothing; make = λ v. NextRow }

abbrev pub look_line : Line Step
look_line = record { word = codes "look"; kinds = Byte ∷ []; tail = Nothing; make = λ v. Look v.0 }

abbrev pub report_line : Line Step
report_line = record { word = codes "report"; kinds = []; tail = Event; make = Report }

abbrev pub finish_line : Line Step
finish_line = record { word = codes "finish"; kinds = []; tail = Event; make = Finish }

abbrev pub other_line : Line Step
other_line = record { word = codes "other"; kinds = []; tail = Event; make = Other }

abbrev pub scrib_line : Line Step
scrib_line = record { word = codes "scrib"; kinds = WordAddress ∷ Number ∷ []; tail = Nothing; make = λ v. Scribble v.0 v.1.0 }

abbrev pub halt_line : Line Step
halt_line = record { word = codes "halt"; kinds = []; tail = Nothing; make = λ v. Halt }

abbrev pub step_lines : List (Line Step)
step_lines = row_line ∷ look_line ∷ report_line ∷ finish_line ∷ other_line ∷ scrib_line ∷ halt_line ∷ []

unfoldable pub step_form_of : List (List ℕ) → Option (FormOf Step)
step_form_of fields = form_in step_lines fields

unfoldable pub step_value : FormOf Step → Option Step
step_value form = value_in form

-- 4 Limit: a line past the limit
abbrev pub is_past_schedule_limit : ℕ → Bool
is_past_schedule_limit number = nat_lt most_schedule_lines number

abbrev pub step_fault : ℕ → Step → Option LineFault
step_fault number step = if is_past_schedule_limit number then Some Limit else None

-- the step that the line with this number says, or the line's least fault
abbrev pub step_line : ℕ → TextLine → Result Step LineFault
step_line number line = line_says step_form_of step_value (step_fault number) line

abbrev pub schedule_in : List TextLine → Result (List Step) (ℕ × LineFault)
schedule_in [] = Err (1, BadHeader)
schedule_in (line ∷ lines) = if is_schedule_version line then lines_say step_line 2 lines else Err (1, BadHeader)

-- the steps of a text, or its first bad line and the least fault there
unfoldable pub schedule_of : List ℕ → Result (List Step) (ℕ × LineFault)
schedule_of text = schedule_in (lines_of text)
