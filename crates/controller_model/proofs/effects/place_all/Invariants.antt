use Rattle.controller_model.proofs.Words.{◌≡◌, ℕ, Some, Command, Header, World, changed_by_all, Follows, GoesOn, KeepsRun, Lists, places_from}
use Rattle.controller_model.proofs.effects.place_all.Given as goal

-- the endpoints below the index have their rings
abbrev pub invariant-loop-index : goal.invariant-loop-index
invariant-loop-index g l = record {
  change : (h : Header) (words : ℕ → ℕ) (c : Command) (w final : World) → Lists h l.header →
      changed_by_all l.header c w (places_from l.header.context_size (g.M.WordMemory.words l.memory) l.slot l.context 2) ≡ Some final → Follows h words l.initial.kept w →
      GoesOn (Follows h words l.kept) (λ v. changed_by_all l.header c v (places_from l.header.context_size (g.M.WordMemory.words l.memory) l.slot l.context l.index) ≡ Some final);
  rest : KeepsRun l.initial.kept l.kept;
}
