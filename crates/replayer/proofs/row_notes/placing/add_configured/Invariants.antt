use Rattle.replayer.proofs.Words.{◌≡◌, ◌++◌, rings_added}
use Rattle.replayer.proofs.row_notes.placing.add_configured.Given as goal

-- the rings of the endpoints below the index are added
abbrev pub invariant-loop-index : goal.invariant-loop-index
invariant-loop-index g l =
    l.rings.items ++ rings_added l.header (g.M.WordMemory.words l.input.memory) l.input.address l.index ≡
    l.initial.rings.items ++ rings_added l.header (g.M.WordMemory.words l.input.memory) l.input.address 2
