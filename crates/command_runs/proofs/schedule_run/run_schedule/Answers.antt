use Rattle.command_runs.proofs.Laws.{true, IsScheduleAnswer, IsScheduled, failure, inl, opened, told_right, answer_held}
use Rattle.command_runs.proofs.schedule_run.run_schedule.Goals as goal

pub returns-in-Ok-clause-told : goal.returns-in-Ok-clause-told
returns-in-Ok-clause-told g c =
    let known = opened g.R.Read.remaining c.args.input in
    let right = answer_held true IsScheduled known _ c.schedule_answer-answer.result c.in-Ok.ensures.bytes
    (rw c.deref.ensures.value at c.schedule_answer-answer.ensures) in
    told_right (λ a. IsScheduleAnswer known a) _ _ _ _ _ _ _ right (inl tt) c.tell.ensures.told

pub returns-in-Err-clause-told : goal.returns-in-Err-clause-told
returns-in-Err-clause-told g c =
    let known = opened g.R.Read.remaining c.args.input in
    told_right (λ a. IsScheduleAnswer known a) _ _ _ _ _ _ _ (failure (λ a. IsScheduleAnswer known a) (inl tt) (inl tt) _) (inl tt) c.tell_failure.ensures.told
