use Rattle.command_runs.proofs.Laws.{Answer, false, inl, IsUnread, subst, sym, unread_right, verified_right}
use Rattle.command_runs.proofs.stream_answers.verified_answer.Goals as goal

pub returns-in-Ok : goal.returns-in-Ok
returns-in-Ok g c = verified_right c.args.leases.now (g.S.Source.held c.args.source.now) (g.S.Source.held c.verify_stream.new.source) c.in-Ok.holds c.in-Ok.ensures.verdict

pub returns-in-Err : goal.returns-in-Err
returns-in-Err g c =
    let known = g.S.Source.held c.args.source.now in
    inl (subst (λ (a : Answer). IsUnread false known a) (sym c.from.ensures) (unread_right false known (g.S.Source.held c.verify_stream.new.source) c.in-Err.fault c.in-Err.ensures.line))
