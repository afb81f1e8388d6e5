use Rattle.command_runs.proofs.Words.{Bool, IsCheckAnswer, ap, is_some, subst, sym}
use Rattle.command_runs.proofs.check_run.judged.Goals as goal

pub returns-in-Some-clause-right : goal.returns-in-Some-clause-right
returns-in-Some-clause-right g c =
    subst (λ (shows : Bool). IsCheckAnswer shows shows g.C.Write.contents c.args.certificate.now c.judged_with_harm.new.certificate (g.R.Read.remaining c.args.input) c.judged_with_harm.result.answer)
    (sym (ap is_some c.in-Some.is)) c.judged_with_harm.ensures.right

pub returns-in-None-clause-right : goal.returns-in-None-clause-right
returns-in-None-clause-right g c =
    subst (λ (shows : Bool). IsCheckAnswer shows shows g.C.Write.contents c.args.certificate.now c.judged_as_read.new.certificate (g.R.Read.remaining c.args.input) c.judged_as_read.result.answer)
    (sym (ap is_some c.in-None.is)) c.judged_as_read.ensures.right
