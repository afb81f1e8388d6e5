use Rattle.command_runs.proofs.Words.{IsFollowAnswer, failure, opened, opened_holds, told_right}
use Rattle.command_runs.proofs.follow_run.run_follow.Goals as goal

pub returns-in-Ok-clause-told : goal.returns-in-Ok-clause-told
returns-in-Ok-clause-told g c =
    let known = opened g.R.Read.remaining c.args.input in
    let right = opened_holds (λ k. IsFollowAnswer k c.followed-answer.result.answer) g.R.Read.remaining c.args.input c.in-Ok.input c.in-Ok.is c.followed-answer.ensures.right in
    told_right (λ a. IsFollowAnswer known a) _ _ _ _ _ _ _ right tt c.tell-status.ensures.told

pub returns-in-Err-clause-told : goal.returns-in-Err-clause-told
returns-in-Err-clause-told g c =
    let known = opened g.R.Read.remaining c.args.input in
    told_right (λ a. IsFollowAnswer known a) _ _ _ _ _ _ _ (failure (λ a. IsFollowAnswer known a) tt tt _) tt c.tell_failure-status.ensures.told
