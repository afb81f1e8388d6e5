use Rattle.std.specs.Prelude.{◌≡◌, ℕ, ◌-◌, ◌/◌, ◌^◌, ◌≤◌, ◌<◌, ◌&&◌, if◌then◌else◌, nat_le, nat_lt, true}
use Rattle.trace_record.specs.RangeWords.Holding.{group_bits}
use Rattle.trace_record.specs.RangeWords.Marks.{is_page_marked}
use Rattle.trace_record.proofs.range_words.soiled.SoiledWords.soil_groups.Given as goal

-- the groups of the blocks so far are whole, and the pages of all are marked
abbrev pub invariant-loop-block : goal.invariant-loop-block
invariant-loop-block l = record {
  bits : (g : ℕ) → group_bits l.self g ≡ (if nat_le l.first g && nat_lt g l.end && nat_lt (g / 64) l.block then 2 ^ 64 - 1 else group_bits l.fn.self g);
  marked : (g : ℕ) → l.first ≤ g → g < l.end → is_page_marked l.self.marks g ≡ true;
}
