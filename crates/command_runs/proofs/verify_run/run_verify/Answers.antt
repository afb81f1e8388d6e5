use Rattle.command_runs.proofs.Laws.{Answer, IsUncertified, answer_of_cert_fault, ap, failure, inl, inr, opened, subst, sym, told_right, uncertified_right, ◌∙◌}
use Rattle.command_runs.proofs.verify_run.run_verify.Goals as goal

pub returns-in-Ok-clause-told : goal.returns-in-Ok-clause-told
returns-in-Ok-clause-told g c =
    let t = c.verify_beside.ensures.told in
    (t.0, inr (c.open_trace.result, c.open_trace.ensures, inr (c.in-Ok.leases.items, c.in-Ok.ensures.leases, rw c.deref.ensures.value at t.1)), t.2)

pub returns-in-Err-Bytes-clause-told : goal.returns-in-Err-Bytes-clause-told
returns-in-Err-Bytes-clause-told g c =
    let bytes = opened g.C.Read.remaining c.args.certificate in
    let uncertified = uncertified_right bytes c.in-Err-Bytes.why (rw c.in-Err-Bytes.field-0-is at c.in-Err-Bytes.ensures.unread) in
    let right : IsUncertified bytes c.from-answer.result =
    subst (λ (a : Answer). IsUncertified bytes a) (sym (c.from-answer.ensures ∙ ap answer_of_cert_fault c.fault.ensures)) uncertified in
    let t = told_right (λ a. IsUncertified bytes a) _ _ _ _ _ _ _ right tt c.tell.ensures.told in (t.0, inl t.1, t.2)

pub returns-clause-told : goal.returns-clause-told
returns-clause-told g c =
    let bytes = opened g.C.Read.remaining c.args.certificate in
    let t = told_right (λ a. IsUncertified bytes a) _ _ _ _ _ _ _ (failure (λ a. IsUncertified bytes a) tt tt _) tt
    (rw c.of-read.ensures.explains at c.tell_failure.ensures.told) in (t.0, inl t.1, t.2)
