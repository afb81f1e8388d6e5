use Rattle.ring_knowledge.proofs.GivenCount.{count_is}
use Rattle.ring_knowledge.proofs.ring_record.RingRecord.given_count.Goals as goal

pub returns : goal.returns
returns c = λ shape v known. count_is shape v c.args.self.now known
