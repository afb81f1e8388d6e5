use Rattle.event_rows.proofs.Words.{[], sym, subst, ◌∙◌, cons_option, HoldsAreas}
use Rattle.event_rows.proofs.completions.ending.leave_input.Goals as goal

pub returns-in-Some : goal.returns-in-Some
returns-in-Some c = λ n rest holds.
    c.remove.ensures n [] rest (subst (λ o. HoldsAreas n (cons_option o rest) c.args.inputs.now) (sym c.input_context.ensures ∙ c.in-Some.is) holds)
