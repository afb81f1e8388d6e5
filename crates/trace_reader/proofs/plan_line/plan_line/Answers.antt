use Rattle.trace_reader.proofs.Laws.{◌∙◌, ap, sym, refl, err_from_is_err_and, fields_of, PlanLine, Limit, valued_by, plan_form_of, plan_line_fault, plan_value, content_faulty, content_whole, faulted, passed_by, unfaulted}
use Rattle.trace_reader.proofs.plan_line.plan_line.Goals as goal

pub returns-in_err-content-clause-answer : goal.returns-in_err-content-clause-answer
returns-in_err-content-clause-answer c =
    let p = err_from_is_err_and c.from_residual.result c.from_residual.ensures.1 in
    rw (p.1, p.2) (content_faulty plan_form_of plan_value (plan_line_fault c.args.number) c.args.line.now _ c.in_err-content.ensures.fault)

pub returns-in_err-said-clause-answer : goal.returns-in_err-said-clause-answer
returns-in_err-said-clause-answer c =
    let p = err_from_is_err_and c.from_residual-in_err-said.result c.from_residual-in_err-said.ensures.1 in
    rw (p.1, p.2, content_whole plan_form_of plan_value (plan_line_fault c.args.number) c.args.line.now _ c.in_ok-content.ensures.whole c.in_ok-content.ensures.content, sym c.of-2.ensures)
    (passed_by (λ (line : PlanLine). line) (λ (line : PlanLine). line) (plan_line_fault c.args.number) c.in_err-said.field-0.0 (valued_by plan_value (plan_form_of c.of-2.result)) c.in_err-said.ensures)

pub returns-then-is_past_limit-clause-answer : goal.returns-then-is_past_limit-clause-answer
returns-then-is_past_limit-clause-answer c =
    rw (c.into.ensures, content_whole plan_form_of plan_value (plan_line_fault c.args.number) c.args.line.now _ c.in_ok-content.ensures.whole c.in_ok-content.ensures.content)
    (faulted (plan_line_fault c.args.number) (valued_by plan_value (plan_form_of (fields_of c.in_ok-content.content.now))) c.in_ok-said.said Limit (ap (λ xs. valued_by plan_value (plan_form_of xs)) (sym c.of-2.ensures) ∙ c.in_ok-said.ensures) (rw (sym c.is_past_limit.ensures ∙ c.if-is_past_limit.true) refl))

pub returns-clause-answer : goal.returns-clause-answer
returns-clause-answer c =
    content_whole plan_form_of plan_value (plan_line_fault c.args.number) c.args.line.now _ c.in_ok-content.ensures.whole c.in_ok-content.ensures.content
    ∙ unfaulted (plan_line_fault c.args.number) (valued_by plan_value (plan_form_of (fields_of c.in_ok-content.content.now))) c.in_ok-said.said (ap (λ xs. valued_by plan_value (plan_form_of xs)) (sym c.of-2.ensures) ∙ c.in_ok-said.ensures) (rw (sym c.is_past_limit.ensures ∙ c.if-is_past_limit.false) refl)
