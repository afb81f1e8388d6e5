use Rattle.knowledge_page.proofs.Laws.{◌≡◌, Some, err_from_is_err_and, text_of, trace_verdict, rows_fit, is_there}
use Rattle.knowledge_page.proofs.shown.shown_before.Goals as goal

pub standing_behind-requires-clause-fitting : goal.standing_behind-requires-clause-fitting
standing_behind-requires-clause-fitting c = rw c.as_slice.ensures (rows_fit c.args.trace.now.header.version c.args.trace.now.rows c.args.trace.now.fitting)

pub returns-in_err-standing-in-Err-Refused-clause-none : goal.returns-in_err-standing-in-Err-Refused-clause-none
returns-in_err-standing-in-Err-Refused-clause-none c =
    let p = err_from_is_err_and c.from_residual-in_err-standing-in-Err-Refused.result c.from_residual-in_err-standing-in-Err-Refused.ensures.1 in
    let trace = text_of c.args.trace.now in
    let same = c.as_slice.ensures in
    let refused : trace_verdict trace.header trace.first c.as_slice.result.now ≡ Some (c.in-Err-Refused.row, c.in-Err-Refused.refusal) =
    rw (c.in-Err-Refused.row-is, c.in-Err-Refused.refusal-is) (rw c.in-Err-Refused.field-0-is at c.in-Err-Refused.ensures.refused) in
    rw (p.1, p.2) (is_there trace _ c.in-Err-Refused.row c.in-Err-Refused.refusal _ (rw same at refused) c.in_err-standing-in-Err-Refused.ensures.none)
