use Rattle.knowledge_page.proofs.Laws.{◌≡◌, Some, ap, arith, length, text_of, trace_verdict, IsRange, rows_fit, range_of_all, range_to}
use Rattle.knowledge_page.proofs.shown.no_row.Goals.{in-Ok, in-Err-Refused, in-Err-Memory}
use Rattle.knowledge_page.proofs.shown.no_row.Goals as goal

pub standing_behind-requires-clause-fitting : goal.standing_behind-requires-clause-fitting
standing_behind-requires-clause-fitting c = rw c.as_slice-rows.ensures (rows_fit c.args.trace.now.header.version c.args.trace.now.rows c.args.trace.now.fitting)

pub returns : goal.returns
returns c =
    let trace = text_of c.args.trace.now in
    let placed = c.args.trace.now.placed in
    let same = c.as_slice-rows.ensures in
    let many : length c.as_slice-rows.result.now ≡ length trace.rows = ap (λ xs. length xs) same in
    elim c.match-standing_behind.branch [
      | in-Ok w ↦ rw w.result-is (range_of_all trace _ (rw same at w.in-Ok.ensures.standing.verdict) (omega (arith, placed, many)))
      | in-Err-Refused w ↦
          let refused : trace_verdict trace.header trace.first c.as_slice-rows.result.now ≡ Some (w.in-Err-Refused.row, w.in-Err-Refused.field-0-1) =
          rw w.in-Err-Refused.field-0-is at w.in-Err-Refused.ensures.refused in
          let range : IsRange trace trace.first w.in-Err-Refused.row = range_to trace w.in-Err-Refused.row w.in-Err-Refused.field-0-1 (rw same at refused) in
          rw w.result-is (rw w.in-Err-Refused.row-is range)
      | in-Err-Memory w ↦ rw w.result-is tt
    ]
