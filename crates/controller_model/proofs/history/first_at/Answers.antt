use Rattle.controller_model.proofs.Laws.{arith, false≢true, false_from_ne_true, none-some, same_Some, first_at-found, first_at-nowhere, one_in_lap}
use Rattle.controller_model.proofs.history.first_at.Goals as goal

pub returns-in-None : goal.returns-in-None
returns-in-None c = grind (arith, first_at-nowhere, false_from_ne_true, none-some)

pub returns-then-is_place : goal.returns-then-is_place
returns-then-is_place c = grind (arith, first_at-found, false_from_ne_true, same_Some, one_in_lap)

pub returns-else-is_place : goal.returns-else-is_place
returns-else-is_place c = grind (arith, first_at-nowhere, false_from_ne_true, same_Some, one_in_lap, false≢true)
