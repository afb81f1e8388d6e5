use Rattle.replayer.proofs.Words.{◌≡◌, ◌++◌, map, drop, Begun}
use Rattle.replayer.proofs.row_notes.completions.note_begun.Given as goal

-- the notes of the rings before the index are added
abbrev pub invariant-loop-ring : goal.invariant-loop-ring
invariant-loop-ring l = l.notes.items ++ map Begun (drop l.ring-index l.rings) ≡ l.initial.notes.items ++ map Begun l.rings
