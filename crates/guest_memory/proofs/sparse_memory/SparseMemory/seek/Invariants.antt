use Rattle.guest_memory.proofs.LowerLaws.{◌-◌, length, numbers, nexts, IsOnWay}
use Rattle.guest_memory.proofs.sparse_memory.SparseMemory.seek.Given as goal

abbrev pub invariant-loop-at : goal.invariant-loop-at
invariant-loop-at l = IsOnWay (numbers l.self.pages.items) (nexts l.self.pages.items) l.number l.at l.rest

abbrev pub decreases-loop-at : goal.decreases-loop-at
decreases-loop-at l = length l.self.pages.items - l.at
