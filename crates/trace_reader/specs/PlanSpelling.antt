-- How a plan is spelled, and which plans have a text
use Rattle.std.specs.Prelude.{◌≡◌, ◌≢◌, ℕ, ◌+◌, ◌<◌, ◌≤◌, Bool, List, [], ◌∷◌, length, map, codes}
use Rattle.std.specs.Int.{w8, w64}
use Rattle.std.specs.List.{flat_map}
use Rattle.line_text.specs.Lines.{lines_of}
use Rattle.line_text.specs.Numbers.{digits_of}
use Rattle.segments.specs.Shape.{IsShape}
use Rattle.trb.specs.declared.ring_kind.RingKind.TheVariants.{Evt}
use Rattle.traces.specs.declared.plan.PlanLine.{PlanLine}
use Rattle.traces.specs.declared.plan.PlanLine.TheVariants.{Sub, Ret}
use Rattle.traces.specs.Limits.{most_lines}
use Rattle.traces.specs.PlanLines.{ArePlanLines}
use Rattle.trace_reader.specs.Plans.{PlanText}
use Rattle.trace_reader.specs.Spelling.{Field, Word, Digits, block_fields, lines_written, ring_fields}

unfoldable pub plan_line_fields : PlanLine → List Field
plan_line_fields (Sub ring blocks) = Word (codes "sub") ∷ Digits (digits_of w8 ring) ∷ flat_map block_fields blocks
plan_line_fields (Ret upto) = Word (codes "ret") ∷ Digits (digits_of w64 upto) ∷ []

abbrev pub plan_version_fields : List Field
plan_version_fields = Word (codes "xplan") ∷ Word (codes "1") ∷ []

-- the lines of a plan by their fields
unfoldable pub plan_text_lines : PlanText → List (List Field)
plan_text_lines plan = plan_version_fields ∷ ring_fields plan.ring ∷ map plan_line_fields plan.lines

-- the text spells the plan
unfoldable pub spells_plan : PlanText → List ℕ → Bool
spells_plan plan text = lines_written (plan_text_lines plan) (lines_of text)

pub record IsPlan (plan : PlanText) : Type 0 where
  pub id : plan.ring.id < 256
  pub shape : IsShape plan.ring.shape
  pub unmoved : plan.ring.shape.offset ≡ 0
  pub driven : plan.ring.shape.kind ≢ Evt
  pub lines : ArePlanLines plan.lines
  pub within : length plan.lines + 2 ≤ most_lines
