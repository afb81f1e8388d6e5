use Rattle.trace_record.proofs.Laws.{arith, bits_of, group_bits, bits_set, still_marked}
use Rattle.trace_record.proofs.range_words.soiled.SoiledWords.set_bits.Goals as goal

pub invariant_of-self-2 : goal.invariant_of-self-2
invariant_of-self-2 c = record {
  marked =
      still_marked (group_bits c.args.self.now) _ c.args.self.now.marks c.mark_of.result c.args.group c.args.bits (omega arith) c.mark_of.ensures.value c.args.self.now.marked
      (bits_set (bits_of c.args.self.now.groups) (bits_of c.args.self.now.whole) (bits_of c.set.new.self) (bits_of c.clear.new.self) c.args.group c.args.bits c.bit_of.result
      c.bit_of.ensures c.in_ok-set.ensures.ok c.clear.ensures);
}

pub returns-clause-ok : goal.returns-clause-ok
returns-clause-ok c =
    bits_set (bits_of c.args.self.now.groups) (bits_of c.args.self.now.whole) (bits_of c.set.new.self) (bits_of c.clear.new.self) c.args.group c.args.bits c.bit_of.result
    c.bit_of.ensures c.in_ok-set.ensures.ok c.clear.ensures
