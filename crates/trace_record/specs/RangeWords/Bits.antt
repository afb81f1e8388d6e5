-- Bits by a number
use Rattle.std.specs.Prelude.{ℕ, unwrap_or}
use Rattle.std.specs.Ordering.{nat_cmp}
use Rattle.std.specs.BTreeMap.{get}
use Rattle.trace_record.specs.declared.range_words.bits.Bits.{Bits}

-- those of a number; 0 where none are kept
abbrev pub bits_of : Bits → ℕ → ℕ
bits_of b n = unwrap_or (get nat_cmp b.kept n) 0
