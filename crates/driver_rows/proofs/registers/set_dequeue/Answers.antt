use Rattle.driver_rows.proofs.Words.{◌≡◌, None, refl, subst, event_ring, event_shape, FollowsEvents}
use Rattle.driver_rows.proofs.registers.set_dequeue.Goals as goal

pub returns-in-None-clause-exact : goal.returns-in-None-clause-exact
unfolding event_shape
returns-in-None-clause-exact c = λ h k f. let none : event_ring h ≡ None = subst (FollowsEvents h k) c.in-None.is f in rw none refl
