use Rattle.ring_knowledge.proofs.Words.{◌≡◌, ◌<◌, ◌&&◌, ℕ, nat_le, nat_lt, length, slice_index, if◌then◌else◌}
use Rattle.ring_knowledge.proofs.ring_record.withdrawals.put_ones.Given as goal

abbrev pub invariant-loop-position : goal.invariant-loop-position
invariant-loop-position l = (length l.lengths.items ≡ length l.fn.lengths.items)
    × ((q : ℕ) → q < length l.fn.lengths.items → slice_index l.lengths.items q ≡ (if nat_le l.from q && nat_lt q l.position then 1 else slice_index l.fn.lengths.items q))
