use Rattle.driver_rows.proofs.Words.{arith, nat_lt, is_passed}
use Rattle.driver_rows.proofs.rings.withdrawing.is_passed.Goals as goal

pub returns-then-has_runs : goal.returns-then-has_runs
unfolding is_passed
returns-then-has_runs c = grind arith

pub returns-then-is_lenient : goal.returns-then-is_lenient
unfolding is_passed
returns-then-is_lenient c = grind (arith, nat_lt)

pub returns : goal.returns
unfolding is_passed
returns c = grind (arith, nat_lt)
