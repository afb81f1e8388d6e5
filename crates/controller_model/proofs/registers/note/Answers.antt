use Rattle.controller_model.proofs.Laws.{valued, registers_noted}
use Rattle.controller_model.proofs.registers.note.Goals as goal

pub returns : goal.returns
unfolding valued
returns c = λ h words w f.
    assumption (rw (← c.noted-kept.ensures) at (registers_noted c.args.kept.now.registers w.register c.args.register c.args.value f.registers))
