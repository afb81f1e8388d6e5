use Rattle.ring_knowledge.proofs.RegisterWrites.{follows_reset}
use Rattle.ring_knowledge.proofs.register_record.RegisterRecord.reset.Goals as goal

pub returns : goal.returns
returns c = λ h k f on. follows_reset h k c.new.result c.new.ensures on
