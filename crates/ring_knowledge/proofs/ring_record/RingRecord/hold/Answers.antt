use Rattle.ring_knowledge.proofs.Words.{rules, is_step_given, is_way_given}
use Rattle.ring_knowledge.proofs.ring_record.RingRecord.hold.Goals as goal

pub returns : goal.returns
unfolding is_step_given is_way_given
returns c = λ shape v known. search (rules, known.marks)
