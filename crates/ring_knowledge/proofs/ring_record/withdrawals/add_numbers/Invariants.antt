use Rattle.ring_knowledge.proofs.Words.{◌≡◌, ◌&&◌, ◌||◌, ℕ, nat_le, nat_lt, contains, nat_cmp}
use Rattle.ring_knowledge.proofs.ring_record.withdrawals.add_numbers.Given as goal

abbrev pub invariant-loop-number : goal.invariant-loop-number
invariant-loop-number l = (q : ℕ) → contains nat_cmp l.set q ≡ (contains nat_cmp l.fn.set q || (nat_le l.from q && nat_lt q l.number))
