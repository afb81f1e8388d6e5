use Rattle.trace_reader.proofs.Laws.{◌≤◌, refl, true, arith, err_from_is_err_and, ring_of, row_of, start, SaysRow, State, line_entry, no_ring, row_error, row_placed}
use Rattle.trace_reader.proofs.line.row_in.Goals as goal

pub returns-in_err-row-clause-answer : goal.returns-in_err-row-clause-answer
returns-in_err-row-clause-answer c st keeps of rings later at begun =
    let p = err_from_is_err_and c.from_residual.result c.from_residual.ensures.1 in
    rw (p.1, p.2) (row_error st c.args.line.now c.in_err-row.field-0.0 (omega (arith, at, c.requires)) (c.in_err-row.ensures.answer st keeps of at begun))

pub returns-clause-answer : goal.returns-clause-answer
returns-clause-answer c st keeps of rings later at begun =
    let behind : 2 ≤ st.lines = omega (arith, at, c.requires) in
    let said = SaysRow (row_of c.in-Row.row) in
    row_placed st c.args.line.now said c.placed_row.result (line_entry st c.args.line.now said behind (rw c.in-Row.is at (c.in_ok-row.ensures.answer st keeps of at begun)))
    (c.placed_row.ensures st (rw c.as_slice.ensures rings) later)

pub unreachable-requires : goal.unreachable-requires
unreachable-requires c =
    let st : State = record (start c.args.keeps) { version = c.args.header.now.version; lines = c.args.lines; begun = true } in
    no_ring st c.args.line.now (ring_of c.in-Ring.field-0) refl (rw c.in-Ring.is at (c.in_ok-row.ensures.answer st refl refl refl refl))
