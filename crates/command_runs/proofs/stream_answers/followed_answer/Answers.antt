use Rattle.command_runs.proofs.Laws.{Answer, IsFollowAnswer, false, subst, sym, counted_right, followed_right}
use Rattle.command_runs.proofs.stream_answers.followed_answer.Goals as goal

pub returns-in-Ok : goal.returns-in-Ok
returns-in-Ok g c = counted_right false (g.S.Source.held c.args.source.now) (g.S.Source.held c.follow_stream.new.source) c.in-Ok.count c.in-Ok.ensures.accepted

pub returns-in-Err : goal.returns-in-Err
returns-in-Err g c =
    let known = g.S.Source.held c.args.source.now in
    subst (λ (a : Answer). IsFollowAnswer known a) (sym c.unaccepted.ensures)
    (followed_right known (g.S.Source.held c.follow_stream.new.source) c.in-Err.fault c.in-Err.ensures.refused c.in-Err.ensures.line c.in-Err.ensures.before)
