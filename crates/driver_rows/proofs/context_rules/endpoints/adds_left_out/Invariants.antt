use Rattle.driver_rows.proofs.Laws.{◌≡◌, ◌-◌, ◌<◌, true, ◌&&◌, has_flag, input_add_flag, adds_left_out, is_left_out_in, any_left}
use Rattle.driver_rows.proofs.context_rules.endpoints.adds_left_out.Given as goal

-- the answer is that of the endpoints from the index on
abbrev pub invariant-loop-index : goal.invariant-loop-index
invariant-loop-index g l =
    (l.index < 32 → has_flag l.flags l.index ≡ true) ×
    (adds_left_out l.isochronous (g.M.WordMemory.words l.memory) l.size l.address ≡
    any_left (λ i. input_add_flag (g.M.WordMemory.words l.memory) l.address i && is_left_out_in l.isochronous (g.M.WordMemory.words l.memory) l.size l.address i) l.index 32)

abbrev pub decreases-loop-index : goal.decreases-loop-index
decreases-loop-index g l = 32 - l.index
