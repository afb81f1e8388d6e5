use Rattle.ring_knowledge.proofs.Words.{◌≡◌, ◌<◌, ◌≤◌, ℕ, false, is_noted, number, place_count, place_of}
use Rattle.ring_knowledge.proofs.ring_record.RingRecord.has_gap.Given as goal

-- none of the positions so far is given
abbrev pub invariant-loop-position : goal.invariant-loop-position
invariant-loop-position l =
    (p : ℕ) → l.self.count ≤ p → p < l.position → is_noted (number l.self.floor) (place_count l.shape) l.self.given.items (place_of l.shape p) p ≡ false
