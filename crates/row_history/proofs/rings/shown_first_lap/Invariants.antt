use Rattle.row_history.proofs.BaseWords.{◌≡◌, ◌≢◌, ◌+◌, ◌*◌, ◌%◌, ◌^◌, ◌<◌, ℕ}
use Rattle.row_history.proofs.rings.shown_first_lap.Given as goal

-- no control word before this block's shows the bit
abbrev pub invariant-loop-block : goal.invariant-loop-block
invariant-loop-block g l =
    (i : ℕ) → i < l.block → l.segment.base % 4 ≡ 0 → l.segment.base + 16 * i + 12 < 2 ^ 64 →
    g.M.WordMemory.words l.memory (l.segment.base + 16 * i + 12) % 2 ≢ 1
