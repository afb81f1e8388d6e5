use Rattle.leases.proofs.BaseWords.{◌≡◌, ℕ, vec_len, index_of, slice_get}
use Rattle.leases.proofs.book.indexes.IndexTables.new.Given as goal

abbrev pub invariant-loop : goal.invariant-loop
invariant-loop l = record { many : vec_len l.rings ≡ l.counter; none : (r m : ℕ) → index_of (slice_get l.rings.items r) m ≡ 0 }
