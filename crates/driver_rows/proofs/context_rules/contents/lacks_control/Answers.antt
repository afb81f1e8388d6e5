use Rattle.driver_rows.proofs.Words.{arith, lacks_control}
use Rattle.driver_rows.proofs.context_rules.contents.lacks_control.Goals as goal

pub returns : goal.returns
unfolding lacks_control
returns g c = grind arith
