use Rattle.driver_rows.proofs.Words.{arith, eq-eqb, is_wrong_link, other_number}
use Rattle.driver_rows.proofs.writes.crossings.is_wrong_link.Goals as goal

pub returns-then-pointer-target : goal.returns-then-pointer-target
unfolding is_wrong_link
returns-then-pointer-target c = grind (arith, other_number)

pub returns-then-not-is_link : goal.returns-then-not-is_link
unfolding is_wrong_link
returns-then-not-is_link c = grind (arith, eq-eqb)

pub returns : goal.returns
unfolding is_wrong_link
returns c = grind (arith, eq-eqb)
