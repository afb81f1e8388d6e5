use Rattle.bench.proofs.Words.{◌++◌, ◌∷◌, Err, ap, words_told}
use Rattle.bench.proofs.going.try_step.Goals as goal

pub returns-in-Ok-clause-rows : goal.returns-in-Ok-clause-rows
returns-in-Ok-clause-rows g c = λ h past b.
    let made = c.in-Ok.ensures.made h past b.0 b.1 b.2 b.3 in
    (c.args.step.now ∷ b.0, b.1 ++ words_told b.2 c.args.step.now, made.0, made.3)

pub returns-in-Err-NotPossible-clause-rows : goal.returns-in-Err-NotPossible-clause-rows
returns-in-Err-NotPossible-clause-rows g c = λ h past b.
    (b.0, b.1, b.2, (c.in-Err-NotPossible.ensures.impossible c.in-Err-NotPossible.field-0-0 h past b.0 b.1 b.2 (ap (λ f. Err f) c.in-Err-NotPossible.field-0-is) b.3).1)
