use Rattle.command_runs.proofs.Laws.{IsCheckAnswer, failure, inl, is_some, opened, opened_holds, refl, told_right, hindered}
use Rattle.command_runs.proofs.check_run.run_check.Goals as goal

pub returns-in-Ok-clause-told : goal.returns-in-Ok-clause-told
returns-in-Ok-clause-told g c =
    let known = opened g.R.Read.remaining c.args.input in
    let before = c.args.certificate.now in
    let after = c.judged-answer.new.certificate in
    let right = opened_holds (λ k. IsCheckAnswer (is_some c.args.shows) (is_some c.args.shows) g.C.Write.contents before after k c.judged-answer.result.answer) g.R.Read.remaining c.args.input c.in-Ok.input c.in-Ok.is
    c.judged-answer.ensures.right in
    told_right (λ a. IsCheckAnswer (is_some c.args.shows) (is_some c.args.shows) g.C.Write.contents before after known a) _ _ _ _ _ _ _ right
    (hindered (is_some c.args.shows) (is_some c.args.shows) g.C.Write.contents before after known c.judged-answer.result.answer right) c.tell-status.ensures.told

pub returns-in-Err-clause-told : goal.returns-in-Err-clause-told
returns-in-Err-clause-told g c =
    let known = opened g.R.Read.remaining c.args.input in
    let before = c.args.certificate.now in
    told_right (λ a. IsCheckAnswer (is_some c.args.shows) (is_some c.args.shows) g.C.Write.contents before before known a) _ _ _ _ _ _ _
    (failure (λ a. IsCheckAnswer (is_some c.args.shows) (is_some c.args.shows) g.C.Write.contents before before known a) (inl refl) (inl refl) _) (inl refl) c.tell_failure-status.ensures.told
