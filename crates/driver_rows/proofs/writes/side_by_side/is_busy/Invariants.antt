use Rattle.driver_rows.proofs.Words.{◌≡◌, ◌<◌, ◌&&◌, ℕ, List, All, false, list_any, Command, is_about, FollowsUnfinished, FitsMemory}
use Rattle.commands.specs.SideBySide.{exclude}
use Rattle.driver_rows.specs.ContextRules.Contents.{NamesLow}
use Rattle.driver_rows.proofs.writes.side_by_side.is_busy.Given as goal

-- none of those before excludes it
abbrev pub invariant-loop-index : goal.invariant-loop-index
invariant-loop-index g l =
    (all : List Command) → FollowsUnfinished all l.fn.commands → All (FitsMemory l.fn.size) all → FitsMemory l.fn.size l.fn.command → NamesLow l.fn.command → (j : ℕ) → j < l.index →
    list_any (λ d. exclude (g.M.WordMemory.words l.fn.memory) l.fn.command d && is_about l.slot j d) all ≡ false
