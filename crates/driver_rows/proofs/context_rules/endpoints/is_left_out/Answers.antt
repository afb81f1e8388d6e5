use Rattle.driver_rows.proofs.Words.{arith, nat_lt, is_left_out_in}
use Rattle.driver_rows.proofs.context_rules.endpoints.is_left_out.Goals as goal

pub returns : goal.returns
unfolding is_left_out_in
returns g c = grind (arith, nat_lt)
