use Rattle.trace_record.proofs.BaseWords.{◌≡◌, ℕ, ◌+◌, ◌*◌, ◌/◌, ◌%◌, ◌<◌, ◌≤◌, false, group_bits, is_marked}
use Rattle.trace_record.proofs.range_words.soiled.SoiledWords.any_in.Given as goal

abbrev pub invariant-loop-group : goal.invariant-loop-group
invariant-loop-group l = (a : ℕ) → a % 4 ≡ 0 → l.from ≤ a → a < l.from + 4 * l.words → a / 256 < l.group → is_marked (group_bits l.self) a ≡ false
