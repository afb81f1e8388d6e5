use Rattle.replayer.proofs.Words.{◌≡◌, ◌-◌, ◌||◌, nat_lt, Making, blocks_of_ring, looked_at, made_looks, is_command_kind, HasMade}
use Rattle.replayer.proofs.scheduler.attempt.Attempt.look_at.Given as goal

-- with the looks that are left as much is made of what was made so far
abbrev pub invariant-loop-looks : goal.invariant-loop-looks
invariant-loop-looks l =
    (m : Making) → HasMade l.fn.self m →
    (k : Making) × HasMade l.self k × (looked_at m l.ring ≡ made_looks (blocks_of_ring l.ring - l.looks) (nat_lt 0 l.looks || is_command_kind l.ring.shape.kind) k l.ring.id)
