use Rattle.controller_model.proofs.Words.{arith}
use Rattle.controller_model.proofs.looks.take.Goals as goal

pub returns : goal.returns
returns c = grind arith
