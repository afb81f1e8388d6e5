use Rattle.knowledge_page.proofs.Laws.{◌≡◌, ◌-◌, Some, ap, inl, inr, arith, length, text_of, trace_verdict, first_fit, behind_broken, not_there}
use Rattle.knowledge_page.proofs.shown.standing_before.Goals.{then-row-trace-via-then-row-trace, then-row-trace-via-else-row-trace+then-row-trace-2}
use Rattle.knowledge_page.proofs.shown.standing_before.Goals as goal

pub standing_behind-requires-clause-fitting : goal.standing_behind-requires-clause-fitting
standing_behind-requires-clause-fitting c =
    let trace = c.args.trace.now in
    rw (c.first_rows-before.ensures, c.as_slice-rows.ensures) (first_fit trace.header.version trace.rows (c.args.row - trace.first) trace.fitting)

pub returns-then-row-trace-clause-none : goal.returns-then-row-trace-clause-none
returns-then-row-trace-clause-none c =
    let many : length c.as_slice-rows.result.now ≡ length c.args.trace.now.rows = ap (λ xs. length xs) c.as_slice-rows.ensures in
    elim c.then-row-trace.branch [
      | then-row-trace-via-then-row-trace w ↦ not_there (text_of c.args.trace.now) c.no_row.result c.args.row (inl w.if-row-trace.true) c.no_row.ensures
      | then-row-trace-via-else-row-trace+then-row-trace-2 w ↦
          let before = w.if-row-trace.false in
          let behind = w.if-row-trace-2.true in
          not_there (text_of c.args.trace.now) c.no_row.result c.args.row (inr (omega (arith, before, behind, many))) c.no_row.ensures
    ]

pub returns-in-Err-Refused-clause-none : goal.returns-in-Err-Refused-clause-none
returns-in-Err-Refused-clause-none c =
    let trace = text_of c.args.trace.now in
    let before = c.if-row-trace.false in
    let within = c.if-row-trace-2.false in
    let same = c.as_slice-rows.ensures in
    let many : length c.as_slice-rows.result.now ≡ length trace.rows = ap (λ xs. length xs) same in
    let taken = c.first_rows-before.ensures in
    let refused : trace_verdict trace.header trace.first c.first_rows-before.result.now ≡ Some (c.in-Err-Refused.row, c.in-Err-Refused.field-0-1) =
    rw c.in-Err-Refused.field-0-is at c.in-Err-Refused.ensures.refused in
    behind_broken trace (c.args.row - trace.first) c.args.row c.in-Err-Refused.row c.in-Err-Refused.field-0-1 (omega (arith, within, many)) (omega (arith, before))
    (rw same at (rw taken at refused))
