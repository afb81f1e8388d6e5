use Rattle.driver_rows.proofs.Laws.{◌≡◌, ◌-◌, ◌<◌, true, ◌&&◌, has_flag, input_add_flag, Known, FollowsDevices, adds_bad, is_bad_added_in, any_left}
use Rattle.driver_rows.proofs.context_rules.contents.adds_bad.Given as goal

-- the answer is that of the endpoints from the index on
abbrev pub invariant-loop-index : goal.invariant-loop-index
invariant-loop-index g l =
    (l.index < 32 → has_flag l.flags l.index ≡ true) ×
    ((k : Known) → FollowsDevices k l.devices → adds_bad k.endpoint_state (g.M.WordMemory.words l.memory) l.size l.slot l.address ≡
    any_left (λ i. input_add_flag (g.M.WordMemory.words l.memory) l.address i && is_bad_added_in k.endpoint_state (g.M.WordMemory.words l.memory) l.size l.slot l.address i) l.index 32)

abbrev pub decreases-loop-index : goal.decreases-loop-index
decreases-loop-index g l = 32 - l.index
