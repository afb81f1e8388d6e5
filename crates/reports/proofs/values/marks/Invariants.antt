use Rattle.reports.proofs.Words.{◌≡◌, map, take, view, mark_data}
use Rattle.reports.proofs.values.marks.Given as goal

abbrev pub invariant-loop-mark : goal.invariant-loop-mark
invariant-loop-mark l = map view l.items.items ≡ map mark_data (take l.mark-index l.marks)
