use Rattle.driver_rows.proofs.Words.{◌≡◌, ◌-◌, ◌<◌, true, list_any, has_flag, Known, FitsMemory, HoldsContexts, bindings_from, was_bound}
use Rattle.driver_rows.proofs.bindings.binding.binds_again.Given as goal

-- those that are left decide
abbrev pub invariant-loop-index : goal.invariant-loop-index
invariant-loop-index g l =
    (l.index < 32 → has_flag l.bound.flags l.index ≡ true) ×
    ((k : Known) → HoldsContexts k l.devices (g.M.WordMemory.words l.memory) → FitsMemory l.header.context_size l.command →
    list_any (was_bound k) (bindings_from l.header k l.command 1) ≡ list_any (was_bound k) (bindings_from l.header k l.command l.index))

abbrev pub decreases-loop-index : goal.decreases-loop-index
decreases-loop-index g l = 32 - l.index
