use Rattle.ownership_checker.proofs.Laws.{err_from_is_err_and, bad_alone, ends_bad, ends_read}
use Rattle.ownership_checker.proofs.pass.reading.pass_rows.Goals as goal

pub returns-in_err-log-clause-line : goal.returns-in_err-log-clause-line
returns-in_err-log-clause-line g c =
    let p = err_from_is_err_and c.from_residual.result c.from_residual.ensures.1 in
    rw (p.1, p.2) (bad_alone (g.S.Source.held c.args.source.now) (g.S.Source.held c.pass_followed.new.source) c.args.reader c.in_err-log.field-0.0 c.in_err-log.ensures.line)

pub returns-in_err-read_on-in-Refused-clause-line : goal.returns-in_err-read_on-in-Refused-clause-line
returns-in_err-read_on-in-Refused-clause-line g c =
    let p = err_from_is_err_and c.from_residual-in_err-read_on-in-Refused.result c.from_residual-in_err-read_on-in-Refused.ensures.1 in
    rw (p.1, p.2) (ends_bad (g.S.Source.held c.args.source.now) (g.S.Source.held c.pass_followed.new.source) c.args.reader _ _ (rw c.in-Refused.is at c.in_ok-log.ensures.refused) c.in_err-read_on-in-Refused.field-0.0 c.in_err-read_on-in-Refused.ensures.line)

pub returns-clause-refused : goal.returns-clause-refused
returns-clause-refused g c = ends_read (g.S.Source.held c.args.source.now) (g.S.Source.held c.pass_followed.new.source) c.args.reader _ _ (rw c.in-Refused.is at c.in_ok-log.ensures.refused) c.in_ok-read_on-in-Refused.ensures.rows
