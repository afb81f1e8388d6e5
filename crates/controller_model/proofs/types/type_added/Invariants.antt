use Rattle.controller_model.proofs.Words.{◌&&◌, ℕ, nat_lt, has_isochronous, input_add_flag, Header, World, typed, Follows, KeepsRun}
use Rattle.controller_model.proofs.types.type_added.Given as goal

-- those below the index have their types
abbrev pub invariant-loop-index : goal.invariant-loop-index
invariant-loop-index g l = record {
  change : (h : Header) (words : ℕ → ℕ) (w : World) → Follows h words l.initial.kept w →
      Follows h words l.kept
      (typed w l.slot (λ i. input_add_flag (g.M.WordMemory.words l.memory) l.context i && nat_lt i l.index) (has_isochronous l.size (g.M.WordMemory.words l.memory) l.context));
  rest : KeepsRun l.initial.kept l.kept;
}
