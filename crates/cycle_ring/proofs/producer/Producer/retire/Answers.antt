use Rattle.cycle_ring.proofs.Retired.{follows_passed}
use Rattle.cycle_ring.proofs.producer.Producer.retire.Goals as goal

pub returns-clause-passed : goal.returns-clause-passed
returns-clause-passed c = rw (← c.self.view_is) (follows_passed _ c.args.upto c.places.ensures.allowed)
