use Rattle.ring_knowledge.proofs.Words.{◌≡◌, ◌<◌, ◌≤◌, ℕ, true, RingView, is_step_given, FollowsMarks}
use Rattle.ring_knowledge.proofs.ring_record.RingRecord.first_not_given.Given as goal

-- the steps so far are given
abbrev pub invariant-loop-q : goal.invariant-loop-q
invariant-loop-q l = (v : RingView) → FollowsMarks l.shape v l.self → (n : ℕ) → l.from ≤ n → n < l.q → is_step_given l.shape v n ≡ true
