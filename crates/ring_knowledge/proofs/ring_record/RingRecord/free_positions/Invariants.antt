use Rattle.ring_knowledge.proofs.Words.{◌≡◌, ◌++◌, filter, nat_le}
use Rattle.ring_knowledge.proofs.ring_record.RingRecord.free_positions.Given as goal

-- those so far, and what is left of the set
abbrev pub invariant-loop-position : goal.invariant-loop-position
invariant-loop-position l = l.positions.items ++ filter (nat_le l.floor) l.position-iterator ≡ filter (nat_le l.floor) l.self.free.keys
