use Rattle.ring_knowledge.proofs.Laws.{rules, place_count, crossing_behind}
use Rattle.ring_knowledge.proofs.ring_record.spots.crossing_behind.Goals as goal

pub returns-clause-over : goal.returns-clause-over
returns-clause-over c = search (rules, place_count, crossing_behind)
