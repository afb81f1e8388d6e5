-- Sets of rings by their IDs
use Rattle.std.specs.Prelude.{ℕ, Bool, false, slice_index_or}
use Rattle.trace_record.specs.declared.ring_set.RingSet.{RingSet}

abbrev pub has : RingSet → ℕ → Bool
has rings r = slice_index_or rings.marks r false
