-- How a plan is read from its text: one ring, and what is done on it
use Rattle.std.specs.Prelude.{ℕ, ◌&&◌, ◌||◌, Bool, true, false, not, List, [], ◌∷◌, length, nat_lt, Option, Some, None, Result, Ok, Err, codes, if◌then◌else◌}
use Rattle.std.specs.Str.{bytes_eq}
use Rattle.line_text.specs.Lines.{TextLine, lines_of}
use Rattle.segments.specs.Shape.{is_shape}
use Rattle.trace_reader.specs.declared.fault.LineFault.{LineFault}
use Rattle.trace_reader.specs.declared.fault.LineFault.TheVariants.{Header as BadHeader, Row as BadRow, Limit, Shape}
use Rattle.traces.specs.declared.plan.PlanLine.{PlanLine}
use Rattle.traces.specs.declared.plan.PlanLine.TheVariants.{Sub, Ret}
use Rattle.traces.specs.declared.ring.Ring.{Ring}
use Rattle.trace_reader.specs.Grammar.{Byte, Long, KindOfRing, Nothing, Blocks, Segments, Line, FormOf, form_in, value_in}
use Rattle.trace_reader.specs.TraceLines.{ring_as}
use Rattle.traces.specs.Header.{is_event_kind}
use Rattle.traces.specs.Limits.{most_lines, most_declared}
use Rattle.trace_reader.specs.LineByLine.{line_says, lines_say}

-- 1 Header: the first line is `xplan 1`
unfoldable pub is_plan_version : TextLine → Bool
is_plan_version line = line.is_ended && bytes_eq line.content (codes "xplan 1")

-- ---- the line of the ring

abbrev pub ring_alone : Line Ring
ring_alone = record { word = codes "ring"; kinds = Byte ∷ KindOfRing true ∷ []; tail = Segments; make = ring_as }

unfoldable pub ring_line_form : List (List ℕ) → Option (FormOf Ring)
ring_line_form fields = form_in (ring_alone ∷ []) fields

unfoldable pub ring_value : FormOf Ring → Option Ring
ring_value form = value_in form

-- 5 Shape: segments that make no ring, or an event ring
abbrev pub is_no_plan_ring : Ring → Bool
is_no_plan_ring ring = not (is_shape ring.shape) || is_event_kind ring.shape.kind

abbrev pub plan_ring_fault : Ring → Option LineFault
plan_ring_fault ring = if is_no_plan_ring ring then Some Shape else None

-- the ring that a line says, or the line's least fault
abbrev pub plan_ring : TextLine → Result Ring LineFault
plan_ring line = line_says ring_line_form ring_value plan_ring_fault line

-- ---- the lines behind it

abbrev pub plan_sub_line : Line PlanLine
plan_sub_line = record { word = codes "sub"; kinds = Byte ∷ []; tail = Blocks; make = λ v. Sub v.0 v.1 }

abbrev pub ret_line : Line PlanLine
ret_line = record { word = codes "ret"; kinds = Long ∷ []; tail = Nothing; make = λ v. Ret v.0 }

unfoldable pub plan_form_of : List (List ℕ) → Option (FormOf PlanLine)
plan_form_of fields = form_in (plan_sub_line ∷ ret_line ∷ []) fields

unfoldable pub plan_value : FormOf PlanLine → Option PlanLine
plan_value form = value_in form

abbrev pub plans_too_much : PlanLine → Bool
plans_too_much (Sub ring blocks) = nat_lt most_declared (length blocks)
plans_too_much (Ret upto) = false

-- 4 Limit: a line past the limit, or too many blocks in one declaration
abbrev pub is_past_plan_limit : ℕ → PlanLine → Bool
is_past_plan_limit number line = nat_lt most_lines number || plans_too_much line

abbrev pub plan_line_fault : ℕ → PlanLine → Option LineFault
plan_line_fault number line = if is_past_plan_limit number line then Some Limit else None

-- what the line with this number says, or its least fault
abbrev pub plan_line : ℕ → TextLine → Result PlanLine LineFault
plan_line number line = line_says plan_form_of plan_value (plan_line_fault number) line

-- ---- the text

-- what a text of a plan says
pub record PlanText : Type 0 where
  pub ring : Ring
  pub lines : List PlanLine

abbrev pub with_ring : Result Ring LineFault → Result (List PlanLine) (ℕ × LineFault) → Result PlanText (ℕ × LineFault)
with_ring (Ok ring) (Ok lines) = Ok (record { ring = ring; lines = lines })
with_ring (Ok ring) (Err fault) = Err fault
with_ring (Err fault) lines = Err (2, fault)

-- the lines behind the first; the line that isn't there is a bad one
abbrev pub plan_behind : List TextLine → Result PlanText (ℕ × LineFault)
plan_behind [] = Err (2, BadRow)
plan_behind (line ∷ lines) = with_ring (plan_ring line) (lines_say plan_line 3 lines)

abbrev pub plan_in : List TextLine → Result PlanText (ℕ × LineFault)
plan_in [] = Err (1, BadHeader)
plan_in (line ∷ lines) = if is_plan_version line then plan_behind lines else Err (1, BadHeader)

-- the plan of a text, or its first bad line and the least fault there
unfoldable pub plan_of : List ℕ → Result PlanText (ℕ × LineFault)
plan_of text = plan_in (lines_of text)
