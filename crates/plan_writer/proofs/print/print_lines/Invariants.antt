use Rattle.plan_writer.proofs.Words.{◌≡◌, ◌+◌, ◌++◌, drop, refusal_from, rows_from, rows_text}
use Rattle.plan_writer.proofs.print.print_lines.Given as goal

-- what was printed and what the lines that are left print are all; the first refused line is one of those that are left
abbrev pub invariant-loop-line : goal.invariant-loop-line
invariant-loop-line l =
    (l.number ≡ 3 + l.line-index)
    × (l.longer.items ++ rows_text (rows_from l.producer (drop l.line-index l.lines)) ≡ l.initial.longer.items ++ rows_text (rows_from l.initial.producer l.lines))
    × (refusal_from l.id l.producer l.number (drop l.line-index l.lines) ≡ refusal_from l.id l.initial.producer 3 l.lines)
