use Rattle.ownership_checker.proofs.Laws.{arith, false, ◌≡◌, ℕ, [], length, subst, reverse, err_from_is_err_and, Header, lents, header_now, LeaseCount, bad_here, opened_bad, opened_bad_told, sound_count}
use Rattle.ownership_checker.proofs.stream_check.follow_stream.Goals as goal

pub returns-in_err-reader-clause-line : goal.returns-in_err-reader-clause-line
returns-in_err-reader-clause-line g c = grind (arith, err_from_is_err_and, opened_bad)

pub returns-in_err-reader-clause-before : goal.returns-in_err-reader-clause-before
returns-in_err-reader-clause-before g c = grind (arith, err_from_is_err_and, opened_bad_told)

pub returns-in_err-counted-clause-line : goal.returns-in_err-counted-clause-line
returns-in_err-counted-clause-line g c =
    let p = err_from_is_err_and c.from_residual-in_err-counted.result c.from_residual-in_err-counted.ensures.1 in
    rw (p.1, p.2) (bad_here (g.S.Source.held c.open.new.source) (g.S.Source.held c.pass_followed.new.source) c.in_ok-reader.reader c.in_err-counted.field-0.0 false (g.S.Source.held c.args.source.now) c.in_ok-reader.ensures.opened c.in_err-counted.ensures.line).0

pub returns-in_err-counted-clause-before : goal.returns-in_err-counted-clause-before
returns-in_err-counted-clause-before g c =
    let p = err_from_is_err_and c.from_residual-in_err-counted.result c.from_residual-in_err-counted.ensures.1 in
    rw (p.1, p.2) (bad_here (g.S.Source.held c.open.new.source) (g.S.Source.held c.pass_followed.new.source) c.in_ok-reader.reader c.in_err-counted.field-0.0 false (g.S.Source.held c.args.source.now) c.in_ok-reader.ensures.opened c.in_err-counted.ensures.line).1

pub returns-in-Whole-clause-accepted : goal.returns-in-Whole-clause-accepted
returns-in-Whole-clause-accepted g c =
    let held = g.S.Source.held c.args.source.now in
    let begins : (first : ℕ) → c.in_ok-log.log.count ≡ length (lents c.in_ok-reader.reader.header first []) =
    subst (λ (h : Header). (first : ℕ) → c.in_ok-log.log.count ≡ length (lents h first [])) c.header.ensures.said c.in_ok-log.ensures in
    let so = (rw c.in-Whole.is at c.in_ok-counted.ensures.whole) false held [] c.in_ok-reader.ensures.opened begins in
    let past = reverse so.0.rows in
    let count = c.count.ensures [] (header_now so.0.header past) (lents so.0.header so.0.first past) so.2.kept in
    (so.0, so.1, sound_count (λ h ts (l : LeaseCount). l.count ≡ length ts) so.0 c.in-Whole.counted so.2 c.count.result count)

pub returns-clause-refused : goal.returns-clause-refused
returns-clause-refused g c = ((rw c.in-Refused.is at c.in_ok-counted.ensures.refused) false (g.S.Source.held c.args.source.now) c.in_ok-reader.ensures.opened).told
