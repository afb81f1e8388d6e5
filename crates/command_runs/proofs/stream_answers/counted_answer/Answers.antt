use Rattle.command_runs.proofs.Laws.{Answer, IsVerdictAlone, false, subst, sym, IsTraceAnswer, counted_right, unaccepted_right}
use Rattle.command_runs.proofs.stream_answers.counted_answer.Goals as goal

pub returns-in-Ok : goal.returns-in-Ok
returns-in-Ok g c = counted_right false (g.S.Source.held c.args.source.now) (g.S.Source.held c.count_stream.new.source) c.in-Ok.leases c.in-Ok.ensures.accepted

pub returns-in-Err : goal.returns-in-Err
returns-in-Err g c =
    let known = g.S.Source.held c.args.source.now in
    subst (λ (a : Answer). IsTraceAnswer false IsVerdictAlone known a) (sym c.unaccepted.ensures)
    (unaccepted_right false known (g.S.Source.held c.count_stream.new.source) c.in-Err.fault c.in-Err.ensures.refused c.in-Err.ensures.line)
