use Rattle.trace_reader.proofs.Laws.{◌≡◌, ◌≤◌, ◌+◌, length, lines_of, most_lines, lines_say, plan_line, prepended}
use Rattle.trace_reader.proofs.plans.read_lines.Given as goal

-- the text that is left
abbrev pub decreases-loop-rest : goal.decreases-loop-rest
decreases-loop-rest l = length l.rest

abbrev pub invariant-loop-rest : goal.invariant-loop-rest
invariant-loop-rest l = record {
  so_far : lines_say plan_line 3 (lines_of l.text) ≡ prepended l.lines.items (lines_say plan_line l.number (lines_of l.rest));
  within : l.number ≤ most_lines + 1;
}
