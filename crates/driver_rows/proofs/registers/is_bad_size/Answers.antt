use Rattle.driver_rows.proofs.Words.{arith, ◌≡◌, None, refl, subst, event_ring, FollowsEvents, is_bad_size}
use Rattle.driver_rows.proofs.registers.is_bad_size.Goals as goal

pub returns-in-Some : goal.returns-in-Some
unfolding is_bad_size
returns-in-Some c = grind (arith, FollowsEvents)

pub returns-in-None : goal.returns-in-None
unfolding is_bad_size
returns-in-None c = λ h k m f. let none : event_ring h ≡ None = subst (FollowsEvents h k) c.in-None.is f.events in rw none refl
