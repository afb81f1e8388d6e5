use Rattle.ring_knowledge.proofs.Words.{◌≡◌, ◌&&◌, ◌||◌, ℕ, nat_le, nat_lt, contains, nat_cmp, is_noted, place_count, place_of}
use Rattle.ring_knowledge.proofs.ring_record.withdrawals.add_given.Given as goal

abbrev pub invariant-loop-position : goal.invariant-loop-position
invariant-loop-position l = (q : ℕ) → contains nat_cmp l.set q ≡ (contains nat_cmp l.fn.set q || ((nat_le l.from q && nat_lt q l.position) && is_noted l.floor (place_count l.shape) l.given (place_of l.shape q) q))
