use Rattle.trace_reader.proofs.Laws.{◌∙◌, ap, sym, refl, le-ltb, lt-ltb, err_from_is_err_and, fields_of, Limit, Step, most_schedule_lines, valued_by, step_fault, step_form_of, step_value, content_faulty, content_whole, faulted, passed_by, unfaulted}
use Rattle.trace_reader.proofs.step_line.step_line.Goals as goal

pub returns-in_err-content-clause-answer : goal.returns-in_err-content-clause-answer
returns-in_err-content-clause-answer c =
    let p = err_from_is_err_and c.from_residual.result c.from_residual.ensures.1 in
    rw (p.1, p.2) (content_faulty step_form_of step_value (step_fault c.args.number) c.args.line.now _ c.in_err-content.ensures.fault)

pub returns-in_err-step-clause-answer : goal.returns-in_err-step-clause-answer
returns-in_err-step-clause-answer c =
    let p = err_from_is_err_and c.from_residual-in_err-step.result c.from_residual-in_err-step.ensures.1 in
    rw (p.1, p.2, content_whole step_form_of step_value (step_fault c.args.number) c.args.line.now _ c.in_ok-content.ensures.whole c.in_ok-content.ensures.content, sym c.of.ensures)
    (passed_by (λ (step : Step). step) (λ (step : Step). step) (step_fault c.args.number) c.in_err-step.field-0.0 (valued_by step_value (step_form_of c.of.result)) c.in_err-step.ensures)

pub returns-then-number-gt-MOST_SCHEDULE_LINES-clause-answer : goal.returns-then-number-gt-MOST_SCHEDULE_LINES-clause-answer
returns-then-number-gt-MOST_SCHEDULE_LINES-clause-answer c =
    rw (c.into.ensures, content_whole step_form_of step_value (step_fault c.args.number) c.args.line.now _ c.in_ok-content.ensures.whole c.in_ok-content.ensures.content)
    (faulted (step_fault c.args.number) (valued_by step_value (step_form_of (fields_of c.in_ok-content.content.now))) c.in_ok-step.step Limit (ap (λ xs. valued_by step_value (step_form_of xs)) (sym c.of.ensures) ∙ c.in_ok-step.ensures) (rw (lt-ltb most_schedule_lines c.args.number c.if-number-gt-MOST_SCHEDULE_LINES.true) refl))

pub returns-clause-answer : goal.returns-clause-answer
returns-clause-answer c =
    content_whole step_form_of step_value (step_fault c.args.number) c.args.line.now _ c.in_ok-content.ensures.whole c.in_ok-content.ensures.content
    ∙ unfaulted (step_fault c.args.number) (valued_by step_value (step_form_of (fields_of c.in_ok-content.content.now))) c.in_ok-step.step (ap (λ xs. valued_by step_value (step_form_of xs)) (sym c.of.ensures) ∙ c.in_ok-step.ensures) (rw (le-ltb most_schedule_lines c.args.number c.if-number-gt-MOST_SCHEDULE_LINES.false) refl)
