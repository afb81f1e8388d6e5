use Rattle.cycle_ring.proofs.Words.{rules, cycle_of-first}
use Rattle.cycle_ring.proofs.producer.Producer.new.Goals as goal

pub returns-clause-begins : goal.returns-clause-begins
returns-clause-begins c = search (rules, cycle_of-first)
