use Rattle.ring_knowledge.proofs.Words.{slice_get, block_at, ◌-◌, ◌≤◌, ◌≡◌, ◌&&◌, not, nat_le, list_any, address_of, cycle_of, is_declared_as}
use Rattle.ring_knowledge.proofs.ring_record.RingRecord.is_not_restored.Given as goal

-- none so far is left
abbrev pub invariant-loop-position : goal.invariant-loop-position
invariant-loop-position g l =
    (goal.iterator-loop-position g).can_next l.position-iterator ×
    (goal.iterator-loop-position g).is_finite l.position-iterator ×
    (l.self.forgotten ≤ l.floor → list_any (λ p. nat_le l.floor p && not (is_declared_as (block_at (g.M.WordMemory.words l.memory) (address_of l.shape p)) (cycle_of l.shape p) (slice_get l.self.blocks.items (p - l.self.forgotten)))) l.position-iterator
    ≡ list_any (λ p. nat_le l.floor p && not (is_declared_as (block_at (g.M.WordMemory.words l.memory) (address_of l.shape p)) (cycle_of l.shape p) (slice_get l.self.blocks.items (p - l.self.forgotten)))) l.self.free.keys)
