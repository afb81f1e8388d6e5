use Rattle.controller_model.proofs.Words.{◌≡◌, ◌<◌, ℕ, false, World, is_scribbled, Follows}
use Rattle.controller_model.proofs.scribbles.may_scribble.Given as goal

-- the word belongs to no device context of a slot so far
abbrev pub invariant-loop-slot : goal.invariant-loop-slot
invariant-loop-slot g l =
    (w : World) → Follows l.header (g.M.WordMemory.words l.memory) l.kept w → (s : ℕ) → s < l.slot → is_scribbled l.header w l.at s ≡ false
