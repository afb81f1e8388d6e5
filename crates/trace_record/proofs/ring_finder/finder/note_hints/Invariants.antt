use Rattle.trace_record.proofs.BaseWords.{◌≡◌, length, AreHints}
use Rattle.trace_record.proofs.ring_finder.finder.note_hints.Given as goal

abbrev pub invariant-loop-number : goal.invariant-loop-number
invariant-loop-number l = AreHints l.starts l.number l.hints.items × (length l.near.items ≡ 1024)
