use Rattle.trace_reader.proofs.Laws.{refl, err_from_is_err_and, state_of, value_of, line_entry, line_error}
use Rattle.trace_reader.proofs.so_far.TraceSoFar.add_entry.Goals as goal

pub returns-in_err-row-clause-err : goal.returns-in_err-row-clause-err
returns-in_err-row-clause-err c =
    let p = err_from_is_err_and c.from_residual.result c.from_residual.ensures.1 in
    rw (p.1, p.2) (line_error (state_of c.args.self.now) c.args.line.now c.in_err-row.field-0.0 c.requires (c.in_err-row.ensures.answer (state_of c.args.self.now) refl refl refl refl))

pub returns-in-Row-clause-ok : goal.returns-in-Row-clause-ok
returns-in-Row-clause-ok c =
    rw (line_entry (state_of c.args.self.now) c.args.line.now (value_of c.in_ok-row.field-0) c.requires (c.in_ok-row.ensures.answer (state_of c.args.self.now) refl refl refl refl), c.in-Row.is) c.add_row.ensures.ok

pub returns-in-Row-clause-err : goal.returns-in-Row-clause-err
returns-in-Row-clause-err c =
    rw (line_entry (state_of c.args.self.now) c.args.line.now (value_of c.in_ok-row.field-0) c.requires (c.in_ok-row.ensures.answer (state_of c.args.self.now) refl refl refl refl), c.in-Row.is) c.add_row.ensures.err

pub returns-in_err-add_ring-in-Ring-clause-err : goal.returns-in_err-add_ring-in-Ring-clause-err
returns-in_err-add_ring-in-Ring-clause-err c =
    let p = err_from_is_err_and c.from_residual-in_err-add_ring-in-Ring.result c.from_residual-in_err-add_ring-in-Ring.ensures.1 in
    rw (p.1, p.2, line_entry (state_of c.args.self.now) c.args.line.now (value_of c.in_ok-row.field-0) c.requires (c.in_ok-row.ensures.answer (state_of c.args.self.now) refl refl refl refl), c.in-Ring.is) c.in_err-add_ring-in-Ring.ensures.err

pub returns-in_ok-add_ring-in-Ring-clause-ok : goal.returns-in_ok-add_ring-in-Ring-clause-ok
returns-in_ok-add_ring-in-Ring-clause-ok c =
    rw (line_entry (state_of c.args.self.now) c.args.line.now (value_of c.in_ok-row.field-0) c.requires (c.in_ok-row.ensures.answer (state_of c.args.self.now) refl refl refl refl), c.in-Ring.is) c.in_ok-add_ring-in-Ring.ensures.ok
