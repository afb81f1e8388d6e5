use Rattle.bench.proofs.Words.{◌∷◌, Ok, Err, ap, NextRow}
use Rattle.bench.proofs.live.Live.row.Goals as goal

pub let_go_on-requires : goal.let_go_on-requires
let_go_on-requires g c =
    let (h, past, (steps, told, x, is)) = c.requires.so_far in
    let made = c.in-Ok.ensures.made h past steps told x is in
    record { so_far = (h, c.in-Some.row ∷ past, (NextRow ∷ steps, told, made.0, made.2)) }

pub returns-in-Ok-let_go_on-clause-said : goal.returns-in-Ok-let_go_on-clause-said
returns-in-Ok-let_go_on-clause-said g c = λ h past b.
    let made = c.in-Ok.ensures.made h past b.0 b.1 b.2 b.3 in (
      c.in-Some.row,
      c.in-Ok-let_go_on.ensures.rows h (c.in-Some.row ∷ past) (NextRow ∷ b.0, b.1, made.0, made.2),
      λ on. c.in-Ok.ensures.judged h past b.0 b.1 b.2 b.3 on,
    )

pub returns-in-Ok-let_go_on-clause-judging : goal.returns-in-Ok-let_go_on-clause-judging
returns-in-Ok-let_go_on-clause-judging g c = λ on none. c.in-Ok-let_go_on.ensures.judging (c.in-Ok.ensures.judging on (ap (λ r. Ok r) none))

pub returns-in-Err-NotPossible-clause-kept : goal.returns-in-Err-NotPossible-clause-kept
returns-in-Err-NotPossible-clause-kept g c = λ h past steps told x b other.
    (c.in-Err-NotPossible.ensures.impossible c.in-Err-NotPossible.refusal h past steps told x (ap (λ f. Err f) c.in-Err-NotPossible.field-0-is) b).1
