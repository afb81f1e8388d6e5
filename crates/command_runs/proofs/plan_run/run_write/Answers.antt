use Rattle.command_runs.proofs.Laws.{IsPlanAnswer, failure, opened, told_right, plan_held}
use Rattle.command_runs.proofs.plan_run.run_write.Goals as goal

pub returns-in-Ok-clause-told : goal.returns-in-Ok-clause-told
returns-in-Ok-clause-told g c =
    let known = opened g.R.Read.remaining c.args.input in
    let right = plan_held known _ c.plan_answer-answer.result c.in-Ok.ensures.bytes
    (rw c.deref.ensures.value at c.plan_answer-answer.ensures) in
    told_right (λ a. IsPlanAnswer known a) _ _ _ _ _ _ _ right tt c.tell.ensures.told

pub returns-in-Err-clause-told : goal.returns-in-Err-clause-told
returns-in-Err-clause-told g c =
    let known = opened g.R.Read.remaining c.args.input in
    told_right (λ a. IsPlanAnswer known a) _ _ _ _ _ _ _ (failure (λ a. IsPlanAnswer known a) tt tt _) tt c.tell_failure.ensures.told
