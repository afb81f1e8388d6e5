use Rattle.controller_model.proofs.looks.allow.Goals as goal

pub returns-in-Some : goal.returns-in-Some
returns-in-Some c = λ h words w f.
    rw c.in-Some.is (c.allow_slot.ensures h words w f)
