use Rattle.controller_model.proofs.Words.{◌&&◌, ℕ, nat_lt, Header, World, disabled, Follows, KeepsRun, named_by}
use Rattle.controller_model.proofs.disabling.disable.Given as goal

-- those below the index are disabled
abbrev pub invariant-loop-index : goal.invariant-loop-index
invariant-loop-index l = record {
  change : (h : Header) (words : ℕ → ℕ) (w : World) → Follows h words l.initial.kept w →
      Follows h words l.kept (disabled w l.slot (λ i. named_by l.named i && nat_lt i l.index));
  rest : KeepsRun l.initial.kept l.kept;
}
