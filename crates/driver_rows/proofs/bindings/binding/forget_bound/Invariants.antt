use Rattle.driver_rows.proofs.Words.{◌≡◌, ℕ, ◌-◌, ◌<◌, true, ◌&&◌, not, list_any, has_flag, Known, FitsMemory, HoldsContexts, bindings_from, is_to, has}
use Rattle.driver_rows.proofs.bindings.binding.forget_bound.Given as goal

-- with those that are left it comes to the same
abbrev pub invariant-loop-index : goal.invariant-loop-index
invariant-loop-index g l =
    (l.index < 32 → has_flag l.bound.flags l.index ≡ true) ×
    ((k : Known) → HoldsContexts k l.devices (g.M.WordMemory.words l.memory) → FitsMemory l.header.context_size l.command →
    (r : ℕ) → (has l.rings r && not (list_any (is_to r) (bindings_from l.header k l.command l.index))) ≡ (has l.initial.rings r && not (list_any (is_to r) (bindings_from l.header k l.command 1))))

abbrev pub decreases-loop-index : goal.decreases-loop-index
decreases-loop-index g l = 32 - l.index
