use Rattle.trace_record.proofs.BaseWords.{◌≡◌, take, starts_from}
use Rattle.trace_record.proofs.ring_finder.finder.all_starts.Given as goal

abbrev pub invariant-loop-number : goal.invariant-loop-number
invariant-loop-number l = l.starts.items ≡ starts_from 0 (take l.number l.rings)
