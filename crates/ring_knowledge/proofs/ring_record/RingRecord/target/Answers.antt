use Rattle.ring_knowledge.proofs.Laws.{rules, number, declared, target_is, few_within}
use Rattle.ring_knowledge.proofs.ring_record.RingRecord.target.Goals as goal

pub returns-clause-value : goal.returns-clause-value
returns-clause-value c = search (rules, number, declared, target_is)

pub returns-clause-few : goal.returns-clause-few
returns-clause-few c =
    few_within c.spot_between.result c.end.result (c.end.ensures.few) c.spot_between.ensures.within
