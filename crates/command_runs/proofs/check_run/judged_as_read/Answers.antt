use Rattle.command_runs.proofs.Words.{Answer, IsCheckAnswer, IsHindered, List, Option, failure, false, subst, sym, ℕ}
use Rattle.command_runs.proofs.check_run.judged_as_read.Goals as goal

pub returns-in-Err-clause-right : goal.returns-in-Err-clause-right
returns-in-Err-clause-right g c =
    let known = g.R.Read.remaining c.args.input in
    let before = c.args.certificate.now in
    let after = c.answer_as_read.new.certificate in
    let cut = subst (λ (k : Option (List ℕ)). IsHindered false g.C.Write.contents before after k) c.new-source.ensures c.in-Err.ensures.hindered in
    subst (λ (a : Answer). IsCheckAnswer false false g.C.Write.contents before after known a) (sym c.unkept.ensures.answer)
    (failure (λ a. IsCheckAnswer false false g.C.Write.contents before after known a) cut cut _)
