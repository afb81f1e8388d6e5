use Rattle.ring_knowledge.proofs.Words.{◌≡◌, ◌-◌, no_ops}
use Rattle.ring_knowledge.proofs.ring_record.withdrawals.put_no_ops.Given as goal

abbrev pub invariant-loop-position : goal.invariant-loop-position
invariant-loop-position l = l.blocks.items ≡ no_ops l.fn.blocks.items l.from (l.position - l.from)
