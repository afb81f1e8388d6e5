use Rattle.trace_reader.proofs.Words.{◌≡◌, ◌++◌, map, take, flat_map, step_fields, printed_line}
use Rattle.trace_reader.proofs.schedules.push_steps.Given as goal

abbrev pub invariant-loop-step : goal.invariant-loop-step
invariant-loop-step l = l.out.items ≡ l.initial.out.items ++ flat_map printed_line (map step_fields (take l.step-index l.steps))
