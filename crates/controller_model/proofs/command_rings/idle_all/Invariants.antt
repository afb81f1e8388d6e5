use Rattle.controller_model.proofs.Words.{ℕ, take, HeaderValue, World, Follows, idle}
use Rattle.controller_model.proofs.command_rings.idle_all.Given as goal

-- the command rings so far are inactive
abbrev pub invariant-loop-ring : goal.invariant-loop-ring
invariant-loop-ring l = (h : HeaderValue) (words : ℕ → ℕ) (w : World) → Follows h words l.initial.kept w → Follows h words l.kept (idle w (take l.ring-index l.rings))
