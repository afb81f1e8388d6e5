use Rattle.trace_record.proofs.Laws.{whole_more}
use Rattle.trace_record.specs.RangeWords.Holding.{group_bits}
use Rattle.trace_record.proofs.range_words.soiled.SoiledWords.soil_groups.Goals as goal

pub loop-block-preserved : goal.loop-block-preserved
loop-block-preserved c = record {
  bits = whole_more (group_bits c.args.self.now) (group_bits c.loop-block.self) (group_bits c.add_whole.new.self) c.args.first c.args.end c.loop-block.block c.mask.result c.mask.ensures
      c.in_ok-add_whole.ensures.ok c.loop-block.invariant.bits;
  marked = λ g low high. rw c.add_whole.ensures.marks (c.loop-block.invariant.marked g low high);
}
