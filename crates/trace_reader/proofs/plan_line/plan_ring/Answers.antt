use Rattle.trace_reader.proofs.Laws.{◌∙◌, ap, sym, err_from_is_err_and, Ring, ring_of, valued_by, plan_ring_fault, ring_line_form, ring_value, content_faulty, content_whole, passed_by}
use Rattle.trace_reader.proofs.plan_line.plan_ring.Goals as goal

pub returns-in_err-content : goal.returns-in_err-content
returns-in_err-content c =
    let p = err_from_is_err_and c.from_residual.result c.from_residual.ensures.1 in
    rw (p.1, p.2) (content_faulty ring_line_form ring_value plan_ring_fault c.args.line.now _ c.in_err-content.ensures.fault)

pub returns-in_err-entry : goal.returns-in_err-entry
returns-in_err-entry c =
    let p = err_from_is_err_and c.from_residual-in_err-entry.result c.from_residual-in_err-entry.ensures.1 in
    rw (p.1, p.2, content_whole ring_line_form ring_value plan_ring_fault c.args.line.now _ c.in_ok-content.ensures.whole c.in_ok-content.ensures.content, sym c.of-2.ensures)
    (passed_by ring_of (λ (ring : Ring). ring) plan_ring_fault c.in_err-entry.field-0.0 (valued_by ring_value (ring_line_form c.of-2.result)) c.in_err-entry.ensures)

pub returns : goal.returns
returns c =
    rw (content_whole ring_line_form ring_value plan_ring_fault c.args.line.now _ c.in_ok-content.ensures.whole c.in_ok-content.ensures.content, ap (λ xs. valued_by ring_value (ring_line_form xs)) (sym c.of-2.ensures) ∙ c.in_ok-entry.ensures) c.made_ring.ensures
