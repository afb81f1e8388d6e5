use Rattle.ring_knowledge.proofs.Words.{◌≡◌, ◌<◌, ◌≤◌, ℕ, false, contains, nat_cmp}
use Rattle.ring_knowledge.proofs.ring_record.withdrawals.has_some.Given as goal

-- none of the numbers so far is in the set
abbrev pub invariant-loop-number : goal.invariant-loop-number
invariant-loop-number l = (q : ℕ) → l.from ≤ q → q < l.number-counter → contains nat_cmp l.set q ≡ false
