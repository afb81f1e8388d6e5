use Rattle.command_runs.proofs.Laws.{true, Answer, failure, inl, inr, opened, subst, sym, told_right, text_of, text_held, unread_held, IsUnread}
use Rattle.command_runs.proofs.replay_run.run_replay.Goals as goal

pub returns-in-Err-clause-told : goal.returns-in-Err-clause-told
returns-in-Err-clause-told g c =
    let rows = opened g.R.Read.remaining c.args.trace in
    let t = told_right (λ a. IsUnread true rows a) _ _ _ _ _ _ _ (failure (λ a. IsUnread true rows a) tt tt _) tt c.tell_failure.ensures.told in (t.0, inl t.1, t.2)

pub returns-in-Ok-read_trace-clause-told : goal.returns-in-Ok-read_trace-clause-told
returns-in-Ok-read_trace-clause-told g c =
    let rows = opened g.R.Read.remaining c.args.trace in
    let t = c.run_beside.ensures.told in (
      t.0,
      inr (
        c.open_schedule.result,
        c.open_schedule.ensures,
        inr (
          text_of c.in-Ok-read_trace.trace,
          text_held true rows _ (text_of c.in-Ok-read_trace.trace) c.in-Ok.ensures.bytes
              (rw c.deref.ensures.value at c.in-Ok-read_trace.ensures.read),
          t.1,
        ),
      ),
      t.2,
    )

pub returns-in-Err-read_trace-clause-told : goal.returns-in-Err-read_trace-clause-told
returns-in-Err-read_trace-clause-told g c =
    let rows = opened g.R.Read.remaining c.args.trace in
    let unread = unread_held true rows _ c.in-Err-read_trace.fault c.in-Ok.ensures.bytes
    (rw c.deref.ensures.value at c.in-Err-read_trace.ensures.refused) in
    let right : IsUnread true rows c.from-answer.result = subst (λ (a : Answer). IsUnread true rows a) (sym c.from-answer.ensures) unread in
    let t = told_right (λ a. IsUnread true rows a) _ _ _ _ _ _ _ right tt c.tell.ensures.told in (t.0, inl t.1, t.2)
