use Rattle.command_runs.proofs.Laws.{ap, false, not, ◌∙◌, alone_right}
use Rattle.command_runs.proofs.check_run.answer_as_read.Goals as goal

pub returns-then-is_none-clause-answered : goal.returns-then-is_none-clause-answered
returns-then-is_none-clause-answered g c =
    alone_right false g.C.Write.contents c.args.certificate.now (g.S.Source.held c.args.source.now) c.counted_answer.result (c.is_none.ensures ∙ ap not c.if-is_none.true) c.counted_answer.ensures
