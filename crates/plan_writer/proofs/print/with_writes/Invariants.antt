use Rattle.plan_writer.proofs.Words.{◌≡◌, ◌++◌, drop, map, rows_text, write_row}
use Rattle.plan_writer.proofs.print.with_writes.Given as goal

-- the rows so far and those of the writes that are left are all
abbrev pub invariant-loop-at : goal.invariant-loop-at
invariant-loop-at l = l.longer.items ++ rows_text (map write_row (drop l.at-index l.writes)) ≡ l.initial.longer.items ++ rows_text (map write_row l.writes)
