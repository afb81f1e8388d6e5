use Rattle.ring_knowledge.proofs.Words.{◌≡◌, ◌+◌, ◌<◌, ◌≤◌, ℕ, true, RingView, is_step_given, FollowsMarks}
use Rattle.ring_knowledge.proofs.ring_record.RingRecord.is_whole.Given as goal

-- the steps so far are given
abbrev pub invariant-loop-offset : goal.invariant-loop-offset
invariant-loop-offset l =
    (v : RingView) → FollowsMarks l.shape v l.self → (o : ℕ) → 1 ≤ o → o < l.offset → is_step_given l.shape v (l.position + o) ≡ true
