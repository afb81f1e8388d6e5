use Rattle.replayer.proofs.Words.{◌≡◌, ◌++◌, ℕ, map, drop, All, Known, IsTransferRing, floor_note, FollowsTrace}
use Rattle.replayer.proofs.row_notes.rows.note_placed.Given as goal

-- where the rings before the index stand is noted
abbrev pub invariant-loop-ring : goal.invariant-loop-ring
invariant-loop-ring l =
    (k : Known) (m : ℕ → ℕ) → FollowsTrace l.header k l.after m → All (IsTransferRing l.header) l.placed →
    l.notes.items ++ map (floor_note k) (drop l.ring-index l.placed) ≡ l.initial.notes.items ++ map (floor_note k) l.placed
