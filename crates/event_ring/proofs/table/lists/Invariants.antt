use Rattle.event_ring.proofs.Words.{◌≡◌, ◌+◌, ◌*◌, drop, lists}
use Rattle.event_ring.proofs.table.lists.Given as goal

-- what is left to list is left of the segments
abbrev pub invariant-loop-number : goal.invariant-loop-number
invariant-loop-number g l =
    lists (g.M.WordMemory.words l.memory) l.base l.segments
    ≡ lists (g.M.WordMemory.words l.memory) (l.base + 16 * l.number) (drop l.number l.segments)
