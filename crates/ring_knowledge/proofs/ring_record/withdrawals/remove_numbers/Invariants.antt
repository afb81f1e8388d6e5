use Rattle.ring_knowledge.proofs.Words.{◌≡◌, ◌&&◌, ℕ, not, nat_le, nat_lt, contains, nat_cmp}
use Rattle.ring_knowledge.proofs.ring_record.withdrawals.remove_numbers.Given as goal

-- the numbers so far are out
abbrev pub invariant-loop-number : goal.invariant-loop-number
invariant-loop-number l = (q : ℕ) → contains nat_cmp l.set q ≡ (contains nat_cmp l.fn.set q && not (nat_le l.from q && nat_lt q l.number-counter))
