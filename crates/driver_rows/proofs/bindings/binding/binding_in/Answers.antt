use Rattle.driver_rows.proofs.Words.{arith}
use Rattle.driver_rows.proofs.bindings.binding.binding_in.Goals as goal

pub returns : goal.returns
returns g c = grind arith
