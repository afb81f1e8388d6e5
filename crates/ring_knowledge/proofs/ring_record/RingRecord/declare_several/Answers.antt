use Rattle.ring_knowledge.proofs.Laws.{refl, is_step_given, is_way_given, declared_marks, lengths_grown}
use Rattle.ring_knowledge.proofs.ring_record.RingRecord.declare_several.Goals as goal

pub returns-clause-ok : goal.returns-clause-ok
unfolding is_step_given is_way_given
returns-clause-ok c = λ shape v known fits. record {
  marks =
      declared_marks shape v c.args.self.now known.marks c.args.blocks.now fits c.requires.some _
      c.in_default.ensures.items
      (lengths_grown c.args.self.now.lengths.items _ c.len-start.result c.args.self.now.lengths.len _ c.len-start.ensures c.args.self.now.lengths.ok.0 c.requires.some c.in_ok-resize.ensures.items)
      refl refl refl refl refl refl refl;
  steps = λ q h. known.steps q h;
  stop = known.stop;
}
