use Rattle.trace_record.proofs.Laws.{◌∙◌, bits_of, bits_whole, either_way, group_bits, same_bits, whole_marked}
use Rattle.std.proofs.Common.{inl, inr}
use Rattle.trace_record.proofs.range_words.soiled.SoiledWords.add_whole.Goals as goal

pub invariant_of-self : goal.invariant_of-self
invariant_of-self c = record {
  marked = elim (either_way c.set.result c.set.ensures.ok c.set.ensures.err) [
    | inl more ↦
        whole_marked (group_bits c.args.self.now) _ c.args.self.now.marks c.args.block c.args.groups c.args.self.now.marked c.requires.marked
        (bits_whole (bits_of c.args.self.now.groups) (bits_of c.args.self.now.whole) (bits_of c.set.new.self) c.args.block c.args.groups c.of-old.result c.of-old.ensures more)
    | inr same ↦ λ g unmarked. same_bits (bits_of c.args.self.now.groups) (bits_of c.args.self.now.whole) (bits_of c.set.new.self) same g ∙ c.args.self.now.marked g unmarked
  ];
}

pub returns-clause-ok : goal.returns-clause-ok
returns-clause-ok c =
    bits_whole (bits_of c.args.self.now.groups) (bits_of c.args.self.now.whole) (bits_of c.set.new.self) c.args.block c.args.groups c.of-old.result c.of-old.ensures c.in_ok-set.ensures.ok
