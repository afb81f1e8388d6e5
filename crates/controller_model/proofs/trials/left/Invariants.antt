use Rattle.controller_model.proofs.Words.{◌≡◌, ◌<◌, if◌then◌else◌, ℕ, None, length, Header, World, Follows, named_by, own_ring}
use Rattle.controller_model.proofs.trials.left.Given as goal

-- the rings below the index are those that are left
abbrev pub invariant-loop-index : goal.invariant-loop-index
invariant-loop-index l = record {
  many : length l.rings ≡ 32;
  left : (h : Header) (words : ℕ → ℕ) (w : World) → Follows h words l.kept w →
      (j : ℕ) → j < l.index → own_ring l.rings j ≡ (if named_by l.named j then None else w.ring_of l.slot j);
}
