use Rattle.replayer.proofs.Words.{◌∙◌, ℕ, ap, append-nil, append_assoc, brought, further, put, Spot}
use Rattle.replayer.proofs.lazy_steps.walk.come_to_both.Goals as goal

pub returns-clause-steps : goal.returns-clause-steps
returns-clause-steps c = rw (append-nil, ← append_assoc, ← c.in_ok-look_towards.ensures) c.in_ok-look_towards-2.ensures

pub returns-clause-pointers : goal.returns-clause-pointers
unfolding brought
returns-clause-pointers c = c.move_on-2.ensures.moved ∙ ap (λ (s : ℕ → Spot). put s c.args.second.ring (further (s c.args.second.ring) c.args.second.spot)) c.move_on.ensures.moved
