use Rattle.controller_model.proofs.Words.{◌≡◌, ℕ, All, length, HeaderValue, opening, FollowsRing, ring_held}
use Rattle.controller_model.proofs.opening.rings.Given as goal

-- so many rings are there, each as before the first row
abbrev pub invariant-loop-id : goal.invariant-loop-id
invariant-loop-id l = record {
  many : length l.rings.items ≡ l._id;
  each : All (λ x. (h : HeaderValue) (r : ℕ) → FollowsRing h r (ring_held opening r) x) l.rings.items;
}
