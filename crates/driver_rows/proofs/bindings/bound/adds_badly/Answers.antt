use Rattle.driver_rows.proofs.Laws.{arith, bad_is}
use Rattle.driver_rows.proofs.bindings.bound.adds_badly.Goals as goal

pub returns : goal.returns
returns g c = grind (arith, bad_is)
