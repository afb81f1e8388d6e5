use Rattle.ring_knowledge.proofs.Laws.{refl, restored_now}
use Rattle.ring_knowledge.proofs.ring_record.RingRecord.restore.Goals as goal

pub returns : goal.returns
returns c = λ shape v known. restored_now shape v c.args.self.now known _ refl refl refl refl refl refl refl refl refl c.clear.ensures.empty
