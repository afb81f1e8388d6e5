use Rattle.trace_reader.proofs.Laws.{◌≡◌, ◌≤◌, ◌+◌, length, lines_of, most_schedule_lines, lines_say, step_line, prepended}
use Rattle.trace_reader.proofs.schedules.read_steps.Given as goal

-- the text that is left
abbrev pub decreases-loop-rest : goal.decreases-loop-rest
decreases-loop-rest l = length l.rest

abbrev pub invariant-loop-rest : goal.invariant-loop-rest
invariant-loop-rest l = record {
  so_far : lines_say step_line 2 (lines_of l.text) ≡ prepended l.steps.items (lines_say step_line l.number (lines_of l.rest));
  within : l.number ≤ most_schedule_lines + 1;
}
