use Rattle.trace_reader.proofs.Laws.{arith, ◌∙◌, sym, err_from_is_err_and, row_of, state_of, SaysRow, some_lines, behind_noted, placed_error}
use Rattle.trace_reader.proofs.so_far.TraceSoFar.add_row.Goals as goal

pub returns-in_err-row-clause-err : goal.returns-in_err-row-clause-err
returns-in_err-row-clause-err c =
    let p = err_from_is_err_and c.from_residual.result c.from_residual.ensures.1 in
    let st = state_of c.args.self.now in
    rw (p.1, p.2) (placed_error st (SaysRow (row_of c.args.row)) c.in_err-row.field-0.0 (c.in_err-row.ensures st (sym c.as_slice.ensures.value) (sym c.as_slice-2.ensures.value)))

pub returns-clause-ok : goal.returns-clause-ok
returns-clause-ok c =
    let st = state_of c.args.self.now in
    c.in_ok-row.ensures st (sym c.as_slice.ensures.value) (sym c.as_slice-2.ensures.value) ∙ behind_noted st c.in_ok-row.row _ c.in_ok-note_id.ensures

pub overflow_add-self : goal.overflow_add-self
overflow_add-self c = let most = (some_lines c.args.self.now.keeps c.args.self.now.version).1 in let few = c.requires in omega (arith, most, few)

pub invariant_of-self-2-clause-counted : goal.invariant_of-self-2-clause-counted
invariant_of-self-2-clause-counted c = let most = (some_lines c.args.self.now.keeps c.args.self.now.version).1 in let few = c.requires in omega (arith, most, few)
