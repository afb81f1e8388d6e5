use Rattle.driver_rows.proofs.Words.{arith, is_place, no_place, Data, Link, none-some}
use Rattle.driver_rows.proofs.registers.is_event_place.Goals as goal

pub returns-in_default : goal.returns-in_default
returns-in_default c = grind (arith, no_place, none-some, Link, Data)

pub returns-in_default-2 : goal.returns-in_default-2
returns-in_default-2 c = grind (arith, no_place, none-some, Link, Data)

pub returns-in-Some-Data : goal.returns-in-Some-Data
returns-in-Some-Data c = grind (arith, is_place)
