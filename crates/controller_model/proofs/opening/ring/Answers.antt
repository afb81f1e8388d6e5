use Rattle.controller_model.proofs.Words.{refl, shape_of, opening}
use Rattle.controller_model.proofs.opening.ring.Goals as goal

pub returns : goal.returns
unfolding opening
returns c = λ h r. record {
  declared = c.new.ensures;
  history = c.new-2.ensures.keeps (shape_of h r);
  harms = λ there. c.new-2.ensures.harms (shape_of h r);
  pointer = refl;
  cycle = refl;
  active = refl;
  holder = record { each = λ s i e. refl; is_one = λ e o. absurd (cc) };
}
