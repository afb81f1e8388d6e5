use Rattle.cycle_ring.proofs.Words.{◌≡◌, ◌+◌, ◌++◌, drop, later_writes}
use Rattle.cycle_ring.proofs.writes.push_later_blocks.Given as goal

-- the writes so far and those of the blocks that are left are all
abbrev pub invariant-loop-i : goal.invariant-loop-i
invariant-loop-i l =
    l.out.items ++ later_writes l.shape (l.position + l.i) (drop l.i l.blocks)
    ≡ l.initial.out.items ++ later_writes l.shape l.position l.blocks
