use Rattle.command_runs.proofs.Words.{Answer, IsVerdictAlone, false, opened, opened_holds, subst, sym, IsTraceAnswer}
use Rattle.command_runs.proofs.several_run.judged_alone.Goals as goal

pub returns-in-Ok-clause-right : goal.returns-in-Ok-clause-right
returns-in-Ok-clause-right g c =
    let answer = c.counted_answer-answer.result in
    let right = opened_holds (λ k. IsTraceAnswer false IsVerdictAlone k answer) g.R.Read.remaining c.args.input c.in-Ok.input c.in-Ok.is (rw c.new-source.ensures at c.counted_answer-answer.ensures) in
    subst (λ (a : Answer). IsTraceAnswer false IsVerdictAlone (opened g.R.Read.remaining c.args.input) a) (sym c.of.ensures.answer) right
