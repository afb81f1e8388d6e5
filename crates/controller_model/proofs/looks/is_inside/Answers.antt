use Rattle.controller_model.proofs.Words.{is_some, arith, is_inside-word}
use Rattle.controller_model.proofs.looks.is_inside.Goals as goal

pub returns-then-places-gt0 : goal.returns-then-places-gt0
returns-then-places-gt0 c = grind (arith, is_some, is_inside-word)
