use Rattle.trace_reader.proofs.Laws.{◌∙◌, sym, length, eqb-true, no_ring_taken, no_second, ring_taken}
use Rattle.trace_reader.proofs.plans.take_ring.Goals as goal

pub returns-then-is_empty-clause-err : goal.returns-then-is_empty-clause-err
returns-then-is_empty-clause-err c = rw (c.at_line.ensures, c.into.ensures) (no_second c.args.text.now (eqb-true (length c.args.text.now) 0 (sym c.is_empty.ensures ∙ c.if-is_empty.true)))

pub returns-in-Ok-clause-ok : goal.returns-in-Ok-clause-ok
returns-in-Ok-clause-ok c = ring_taken c.args.text.now c.first_line-line.result.1.now c.first_line-line.result.0 c.in-Ok.ring c.first_line-line.ensures.lines c.in-Ok.ensures

pub returns-in-Err-clause-err : goal.returns-in-Err-clause-err
returns-in-Err-clause-err c =
    rw c.at_line-in-Err.ensures
    (no_ring_taken c.args.text.now c.first_line-line.result.1.now c.first_line-line.result.0 c.in-Err.error c.first_line-line.ensures.lines c.in-Err.ensures)
