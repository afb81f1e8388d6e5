-- Lines of plans whose numbers fit the fields of their types
use Rattle.std.specs.Prelude.{◌<◌, ◌≤◌, ◌^◌, All, List, length}
use Rattle.std.proofs.Props.{props}
use Rattle.trb.specs.Block.{IsBlock}
use Rattle.traces.specs.Limits.{most_declared}
use Rattle.traces.specs.declared.plan.PlanLine.{PlanLine}
use Rattle.traces.specs.declared.plan.PlanLine.TheVariants.{Sub, Ret}

-- what a plan's line can say: its numbers fit, and a declaration has a block at least and not too many
abbrev pub IsPlanLine : PlanLine → Type 0
IsPlanLine (Sub ring blocks) = (ring < 256) × All IsBlock blocks × (0 < length blocks) × (length blocks ≤ most_declared)
IsPlanLine (Ret upto) = upto < 2 ^ 64

-- each is one fact
pub plan_line_is_fact : (line : PlanLine) → IsProp (IsPlanLine line)
plan_line_is_fact (Sub ring blocks) = hlevel props
plan_line_is_fact (Ret upto) = hlevel props

abbrev pub ArePlanLines : List PlanLine → Type 0
ArePlanLines lines = All IsPlanLine lines

pub plan_lines_are_fact : (lines : List PlanLine) → IsProp (ArePlanLines lines)
plan_lines_are_fact lines = hlevel (props, plan_line_is_fact)
