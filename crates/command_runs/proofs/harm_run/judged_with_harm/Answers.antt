use Rattle.command_runs.proofs.Laws.{Answer, IsCheckAnswer, failure, subst, sym, true, check_held, hindered_held}
use Rattle.command_runs.proofs.harm_run.judged_with_harm.Goals as goal

pub returns-in-Ok-check_answer-clause-right : goal.returns-in-Ok-check_answer-clause-right
returns-in-Ok-check_answer-clause-right g c =
    let known = g.R.Read.remaining c.args.input in
    let before = c.args.certificate.now in
    let after = c.check_answer.new.certificate in
    subst (λ (a : Answer). IsCheckAnswer true true g.C.Write.contents before after known a) (sym c.of.ensures.answer)
    (check_held true true g.C.Write.contents before after known _ c.in-Ok-check_answer.answer c.in-Ok.ensures.bytes
    (rw c.deref.ensures.value at c.in-Ok-check_answer.ensures.answered))

pub returns-clause-right : goal.returns-clause-right
returns-clause-right g c =
    let known = g.R.Read.remaining c.args.input in
    let before = c.args.certificate.now in
    let after = c.check_answer.new.certificate in
    let cut = hindered_held true g.C.Write.contents before after known _ c.in-Ok.ensures.bytes
    (rw c.deref.ensures.value at c.in-Err-check_answer.ensures.hindered) in
    subst (λ (a : Answer). IsCheckAnswer true true g.C.Write.contents before after known a) (sym c.unkept.ensures.answer)
    (failure (λ a. IsCheckAnswer true true g.C.Write.contents before after known a) cut cut _)
