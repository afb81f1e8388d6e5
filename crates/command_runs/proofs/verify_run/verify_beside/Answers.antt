use Rattle.command_runs.proofs.Words.{IsVerdictBeside, failure, inl, opened, opened_holds, told_right}
use Rattle.command_runs.proofs.verify_run.verify_beside.Goals as goal

pub returns-in-Ok-clause-told : goal.returns-in-Ok-clause-told
returns-in-Ok-clause-told g c =
    let known = opened g.R.Read.remaining c.args.trace in
    let answer = c.verified_answer-answer.result in
    let right = opened_holds (λ k. IsVerdictBeside c.args.leases.now k answer) g.R.Read.remaining c.args.trace c.in-Ok.trace c.in-Ok.is
    (rw c.new-source.ensures at c.verified_answer-answer.ensures) in
    told_right (λ a. IsVerdictBeside c.args.leases.now known a) _ _ _ _ _ _ _ right (inl tt) c.tell.ensures.told

pub returns-in-Err-clause-told : goal.returns-in-Err-clause-told
returns-in-Err-clause-told g c =
    let known = opened g.R.Read.remaining c.args.trace in
    told_right (λ a. IsVerdictBeside c.args.leases.now known a) _ _ _ _ _ _ _ (failure (λ a. IsVerdictBeside c.args.leases.now known a) (inl tt) (inl tt) _) (inl tt)
    c.tell_failure.ensures.told
