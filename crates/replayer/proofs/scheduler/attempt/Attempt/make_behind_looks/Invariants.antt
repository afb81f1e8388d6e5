use Rattle.replayer.proofs.Words.{◌≡◌, ◌-◌, Making, blocks_of_ring, made_behind_looks, HasMade}
use Rattle.replayer.proofs.scheduler.attempt.Attempt.make_behind_looks.Given as goal

-- with the looks that are left as much is made of what was made so far
abbrev pub invariant-loop-looks : goal.invariant-loop-looks
invariant-loop-looks l =
    (m : Making) → HasMade l.fn.self m →
    (k : Making) × HasMade l.self k × (made_behind_looks (blocks_of_ring l.ring) m l.step l.ring.id ≡ made_behind_looks (blocks_of_ring l.ring - l._looks) k l.step l.ring.id)
