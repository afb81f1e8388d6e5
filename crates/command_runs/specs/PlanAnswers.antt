-- What is right to answer to the text of a plan
use Rattle.std.specs.Prelude.{◌≡◌, ℕ, List, Option, Some, None, Ok, Err}
use Rattle.trace_reader.specs.declared.fault.LineFault.{LineFault}
use Rattle.trace_reader.specs.Plans.{PlanText, plan_of}
use Rattle.trace_reader.specs.Spelling.{printed_trace}
use Rattle.plan_writer.specs.Plans.{plan_refusal, plan_trace}
use Rattle.answers.specs.declared.answer.Answer.{Answer}
use Rattle.answers.specs.declared.answer.Answer.TheVariants.{Written, Unfollowed, BadLine, Memory, Device}

-- the known bytes of an input spell the plan; of bytes that aren't known nothing is said
abbrev pub IsPlanIn : Option (List ℕ) → PlanText → Type 0
IsPlanIn None plan = Unit {0}
IsPlanIn (Some bytes) plan = plan_of bytes ≡ Ok plan

-- the first bad line of the known bytes of an input, and the least of its faults
abbrev pub IsFirstBadInPlan : Option (List ℕ) → ℕ → LineFault → Type 0
IsFirstBadInPlan None line fault = Unit {0}
IsFirstBadInPlan (Some bytes) line fault = plan_of bytes ≡ Err (line, fault)

-- an answer to an input is right: the trace of the plan that it holds, or the plan's first line that can't be followed; or where
-- it holds none its first bad line; or that memory or the device failed
abbrev pub IsPlanAnswer : Option (List ℕ) → Answer → Type 0
IsPlanAnswer known (Written text) = (plan : PlanText) × IsPlanIn known plan × (plan_refusal plan ≡ None) × (text.items ≡ printed_trace (plan_trace plan))
IsPlanAnswer known (Unfollowed line refusal) = (plan : PlanText) × IsPlanIn known plan × (plan_refusal plan ≡ Some (line, refusal))
IsPlanAnswer known (BadLine line fault) = IsFirstBadInPlan known line fault
IsPlanAnswer known Memory = Unit {0}
IsPlanAnswer known Device = Unit {0}
IsPlanAnswer known _ = ⊥
