use Rattle.controller_model.proofs.Laws.{arith, none_later}
use Rattle.controller_model.proofs.stamps.Stamps.is_changed_behind.Goals as goal

pub returns-then-self-given : goal.returns-then-self-given
returns-then-self-given c = grind (arith, none_later)
