use Rattle.trace_record.proofs.Laws.{arith, nat_eq, nat_lt, bit_and, bit_at, group_bits, tested_bit}
use Rattle.trace_record.proofs.range_words.soiled.SoiledWords.is_soiled.Goals as goal

pub returns : goal.returns
returns c = grind (arith, nat_eq, bit_and, tested_bit, nat_lt, bit_at, group_bits)
