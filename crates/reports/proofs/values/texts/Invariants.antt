use Rattle.reports.proofs.Words.{◌≡◌, map, take, string_bytes, string, view}
use Rattle.reports.proofs.values.texts.Given as goal

abbrev pub invariant-loop-text : goal.invariant-loop-text
invariant-loop-text l = map view l.items.items ≡ map (λ text. string (string_bytes text)) (take l.text-index l.texts)
