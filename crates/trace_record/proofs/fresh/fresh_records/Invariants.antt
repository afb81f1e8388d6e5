use Rattle.trace_record.proofs.BaseWords.{IsFreshSo}
use Rattle.trace_record.proofs.fresh.fresh_records.Given as goal

-- a record of each ring so far
abbrev pub invariant-loop-ring : goal.invariant-loop-ring
invariant-loop-ring l = IsFreshSo l.rings l.records.items l.ring-index
