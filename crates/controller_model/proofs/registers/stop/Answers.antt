use Rattle.controller_model.proofs.registers.stop.Goals as goal

pub returns : goal.returns
returns c = λ h words w f. assumption
