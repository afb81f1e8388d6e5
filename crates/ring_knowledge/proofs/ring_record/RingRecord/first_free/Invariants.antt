use Rattle.ring_knowledge.proofs.Words.{◌≡◌, ◌<◌, ◌≤◌, ℕ, false, contains, nat_cmp}
use Rattle.ring_knowledge.proofs.ring_record.RingRecord.first_free.Given as goal

-- none of the positions so far is free
abbrev pub invariant-loop-position : goal.invariant-loop-position
invariant-loop-position l = (p : ℕ) → l.ceiling ≤ p → p < l.position-counter → contains nat_cmp l.self.free p ≡ false
