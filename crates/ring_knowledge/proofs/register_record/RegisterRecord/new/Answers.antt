use Rattle.ring_knowledge.proofs.RegisterWrites.{follows_nothing}
use Rattle.ring_knowledge.proofs.register_record.RegisterRecord.new.Goals as goal

pub returns : goal.returns
returns c = follows_nothing
