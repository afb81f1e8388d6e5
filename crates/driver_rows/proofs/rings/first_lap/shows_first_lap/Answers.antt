use Rattle.driver_rows.proofs.Laws.{arith, shows_first_lap, any_left, found, go_on, none_left}
use Rattle.driver_rows.proofs.rings.first_lap.shows_first_lap.Goals as goal

pub loop-block-init : goal.loop-block-init
unfolding shows_first_lap any_left
loop-block-init g c = grind arith

pub loop-block-preserved : goal.loop-block-preserved
loop-block-preserved g c = grind (arith, go_on)

pub returns-then-has_cycle_bit : goal.returns-then-has_cycle_bit
returns-then-has_cycle_bit g c = grind (arith, found)

pub returns : goal.returns
returns g c = grind (arith, none_left)
