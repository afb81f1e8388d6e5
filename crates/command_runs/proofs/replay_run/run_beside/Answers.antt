use Rattle.command_runs.proofs.Laws.{IsReplayBeside, failure, opened, told_right, text_of, beside_held}
use Rattle.command_runs.proofs.replay_run.run_beside.Goals as goal

pub returns-in-Ok-clause-told : goal.returns-in-Ok-clause-told
returns-in-Ok-clause-told g c =
    let known = opened g.S.Read.remaining c.args.schedule in
    let held = beside_held (text_of c.args.trace.now) known _ c.replay_answer-answer.result c.in-Ok.ensures.bytes (rw c.deref.ensures.value at c.replay_answer-answer.ensures) in
    told_right (λ a. IsReplayBeside (text_of c.args.trace.now) known a) _ _ _ _ _ _ _ held tt c.tell.ensures.told

pub returns-in-Err-clause-told : goal.returns-in-Err-clause-told
returns-in-Err-clause-told g c =
    let known = opened g.S.Read.remaining c.args.schedule in
    told_right (λ a. IsReplayBeside (text_of c.args.trace.now) known a) _ _ _ _ _ _ _ (failure (λ a. IsReplayBeside (text_of c.args.trace.now) known a) tt tt _) tt
    (rw c.of-named.ensures.explains at c.tell_failure.ensures.told)
