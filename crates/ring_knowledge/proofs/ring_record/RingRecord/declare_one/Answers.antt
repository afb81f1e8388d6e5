use Rattle.ring_knowledge.proofs.Laws.{refl, [], ◌∷◌, arith, is_step_given, is_way_given, declared_marks}
use Rattle.ring_knowledge.proofs.ring_record.RingRecord.declare_one.Goals as goal

pub returns-clause-ok : goal.returns-clause-ok
unfolding is_step_given is_way_given
returns-clause-ok c = λ shape v known fits. record {
  marks = declared_marks shape v c.args.self.now known.marks (c.args.block ∷ []) fits (omega arith) _
      c.in_default.ensures.items c.in_ok-push.ensures.items refl refl refl refl refl refl refl;
  steps = λ q h. known.steps q h;
  stop = known.stop;
}
