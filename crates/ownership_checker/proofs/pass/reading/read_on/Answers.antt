use Rattle.ownership_checker.proofs.Laws.{◌∙◌, ap, refl, err_from_is_err_and, all_read_on, bad_read_on, ended, fewer_left, given, none_read_on, row_read_on}
use Rattle.ownership_checker.proofs.pass.reading.read_on.Goals as goal

pub loop-next-init : goal.loop-next-init
loop-next-init g c = (none_read_on, refl)

pub loop-next-preserved : goal.loop-next-preserved
loop-next-preserved g c =
    let told = c.in_ok-next.ensures in
    (row_read_on c.loop-next.invariant.0 (given c.loop-next.reader c.next_row.new.self c.in-Some.is told.same told.over told.answer), told.failures ∙ c.loop-next.invariant.1)

pub loop-next-smaller : goal.loop-next-smaller
loop-next-smaller g c = fewer_left (given c.loop-next.reader c.next_row.new.self c.in-Some.is c.in_ok-next.ensures.same c.in_ok-next.ensures.over c.in_ok-next.ensures.answer)

pub returns-clause-rows : goal.returns-clause-rows
returns-clause-rows g c =
    let told = c.in_ok-next.ensures in
    all_read_on c.loop-next.invariant.0 (ended c.loop-next.reader c.next_row.new.self c.in_default.is told.same told.over told.answer) (λ ended. ap (g.S.Source.held) (c.next_row.ensures.nothing ended).2)

pub returns-in_err-next-clause-line : goal.returns-in_err-next-clause-line
returns-in_err-next-clause-line g c =
    let p = err_from_is_err_and c.from_residual.result c.from_residual.ensures.1 in
    let told = c.in_err-next.ensures in
    rw (p.1, p.2) (bad_read_on c.loop-next.invariant.0 (g.S.Source.held c.next_row.new.source) c.next_row.new.self c.in_err-next.field-0.0 told.same told.over told.answer)
