use Rattle.replayer.proofs.Words.{append-nil, brought}
use Rattle.replayer.proofs.lazy_steps.walk.come_to.Goals as goal

pub returns-clause-steps : goal.returns-clause-steps
returns-clause-steps c = rw append-nil c.in_ok-look_towards.ensures

pub returns-clause-pointers : goal.returns-clause-pointers
unfolding brought
returns-clause-pointers c = c.move_on.ensures.moved
