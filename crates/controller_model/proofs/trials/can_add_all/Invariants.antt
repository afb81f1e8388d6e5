use Rattle.controller_model.proofs.Words.{ℕ, Command, Header, World, changed_by_all, Follows, places_from, GoesOnAs, Sees}
use Rattle.controller_model.proofs.trials.can_add_all.Given as goal

-- the endpoints below the index would have their rings
abbrev pub invariant-loop-index : goal.invariant-loop-index
invariant-loop-index g l =
    (h : Header) (words : ℕ → ℕ) (c : Command) (w v : World) → Follows h words l.kept w → Sees l.initial.rings l.slot w v →
    GoesOnAs l.rings l.slot w (changed_by_all l.header c v (places_from l.header.context_size (g.M.WordMemory.words l.memory) l.slot l.context 2))
    (λ u. changed_by_all l.header c u (places_from l.header.context_size (g.M.WordMemory.words l.memory) l.slot l.context l.index))
