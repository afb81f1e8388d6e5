use Rattle.controller_model.proofs.Words.{arith, seen_by_look}
use Rattle.controller_model.proofs.looks.note_look.Goals as goal

pub returns : goal.returns
unfolding seen_by_look
returns c = grind arith
