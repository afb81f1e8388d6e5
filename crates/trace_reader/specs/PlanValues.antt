-- What a plan says
use Rattle.traces.specs.declared.plan.Plan.{Plan}
use Rattle.trace_reader.specs.Plans.{PlanText}

abbrev pub plan_text : Plan → PlanText
plan_text plan = record { ring = plan.ring; lines = plan.lines }
