use Rattle.driver_rows.proofs.Words.{◌≡◌, ◌-◌, ◌<◌, true, has_flag, Known, DriverKeeps, FollowsTrace, FitsMemory, are_bad, bindings_from, is_misplaced, HoldsDropped}
use Rattle.driver_rows.proofs.bindings.binding.binds_badly.Given as goal

-- those that are left decide
abbrev pub invariant-loop-index : goal.invariant-loop-index
invariant-loop-index g l =
    (l.index < 32 → has_flag l.bound.flags l.index ≡ true) ×
    ((k : Known) → FollowsTrace l.header k l.t (g.M.WordMemory.words l.memory) → DriverKeeps l.header k → FitsMemory l.header.context_size l.command → HoldsDropped k l.command l.dropped →
    are_bad (is_misplaced l.header k l.command) l.t.bound (bindings_from l.header k l.command 1)
    ≡ are_bad (is_misplaced l.header k l.command) l.taken (bindings_from l.header k l.command l.index))

abbrev pub decreases-loop-index : goal.decreases-loop-index
decreases-loop-index g l = 32 - l.index
