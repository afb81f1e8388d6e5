use Rattle.command_runs.proofs.Laws.{Answer, IsCheckAnswer, false, length, subst, sym, ◌≡◌, cut_right, kept_right, unkept_right}
use Rattle.command_runs.proofs.check_run.kept_answer.Goals as goal

pub returns-in_err-keep-in-Ok-clause-hindered : goal.returns-in_err-keep-in-Ok-clause-hindered
returns-in_err-keep-in-Ok-clause-hindered g c =
    cut_right c.args.keeps g.C.Write.contents c.args.certificate.now c.keep.new.certificate (g.S.Source.held c.args.source.now) (g.S.Source.held c.check_stream.new.source) c.in-Ok.found.leases.items
    c.from_residual.result c.in-Ok.ensures.accepted (rw c.deref.ensures.value at c.keep.ensures.beginning)

pub returns-in_ok-keep-in-Ok-clause-answered : goal.returns-in_ok-keep-in-Ok-clause-answered
returns-in_ok-keep-in-Ok-clause-answered g c =
    let counted : c.len.result ≡ length c.in-Ok.found.leases.items = search in
    kept_right c.args.keeps g.C.Write.contents c.args.certificate.now c.keep.new.certificate (g.S.Source.held c.args.source.now) (g.S.Source.held c.check_stream.new.source) c.in-Ok.found.leases.items
    c.len.result c.in-Ok.ensures.accepted counted (rw c.deref.ensures.value at c.in_ok-keep-in-Ok.ensures.whole)

pub returns-in-Err-clause-answered : goal.returns-in-Err-clause-answered
returns-in-Err-clause-answered g c =
    let known = g.S.Source.held c.args.source.now in
    let before = c.args.certificate.now in
    subst (λ (a : Answer). IsCheckAnswer c.args.keeps false g.C.Write.contents before before known a) (sym c.unaccepted.ensures)
    (unkept_right c.args.keeps g.C.Write.contents before known (g.S.Source.held c.check_stream.new.source) c.in-Err.fault c.in-Err.ensures.refused c.in-Err.ensures.line)
