use Rattle.replayer.proofs.Words.{◌∙◌, refl, with_ring, without_ring}
use Rattle.replayer.proofs.scheduler.rings.follow_rings.Goals as goal

pub returns-in_ok-add_ring-in-Ring : goal.returns-in_ok-add_ring-in-Ring
unfolding with_ring
returns-in_ok-add_ring-in-Ring c h before = rw c.in-Ring.is (c.in_ok-add_ring-in-Ring.ensures ∙ rw (before, c.as_ring.ensures) refl)

pub returns-in-Free : goal.returns-in-Free
unfolding without_ring
returns-in-Free c h before = rw c.in-Free.is (c.drop_ring.ensures ∙ rw before refl)
