use Rattle.reports.proofs.Words.{◌≡◌, map, take, view, take_data}
use Rattle.reports.proofs.values.takes.Given as goal

abbrev pub invariant-loop-take : goal.invariant-loop-take
invariant-loop-take l = map view l.items.items ≡ map take_data (take l.take-index l.takes)
