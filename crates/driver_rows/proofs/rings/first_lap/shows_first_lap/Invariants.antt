use Rattle.driver_rows.proofs.Laws.{◌≡◌, ◌+◌, ◌*◌, ◌%◌, ◌==◌, ℕ, Known, shows_first_lap, any_left}
use Rattle.driver_rows.proofs.rings.first_lap.shows_first_lap.Given as goal

-- the answer is that of the blocks from this one on
abbrev pub invariant-loop-block : goal.invariant-loop-block
invariant-loop-block g l =
    (k : Known) → ((a : ℕ) → k.memory a ≡ g.M.WordMemory.words l.memory a) →
    shows_first_lap k l.segment ≡ any_left (λ i. k.memory (l.segment.base + 16 * i + 12) % 2 == 1) l.block l.segment.count
