use Rattle.ownership_checker.proofs.Laws.{arith, false, ◌≡◌, ℕ, [], length, subst, reverse, err_from_is_err_and, Header, lents, header_now, LeaseCount, opened_bad, sound_count}
use Rattle.ownership_checker.proofs.stream_check.count_stream.Goals as goal

pub returns-in_err-reader-clause-line : goal.returns-in_err-reader-clause-line
returns-in_err-reader-clause-line g c = grind (arith, err_from_is_err_and, opened_bad)

pub returns-in-Whole-clause-accepted : goal.returns-in-Whole-clause-accepted
returns-in-Whole-clause-accepted g c =
    let held = g.S.Source.held c.args.source.now in
    let log = c.in-Whole.log in
    let whole = rw c.in-Whole.is at c.in_ok-log-2.ensures.whole in
    let begins : (first : ℕ) → c.in_ok-log.log.count ≡ length (lents c.in_ok-reader.reader.header first []) =
    subst (λ (h : Header). (first : ℕ) → c.in_ok-log.log.count ≡ length (lents h first [])) c.header.ensures.said c.in_ok-log.ensures in
    let so = whole false held [] c.in_ok-reader.ensures.opened begins in
    let trace = so.0 in
    let past = reverse trace.rows in
    let count = c.count.ensures [] (header_now trace.header past) (lents trace.header trace.first past) so.2.kept in
    (trace, so.1, sound_count (λ h ts (l : LeaseCount). l.count ≡ length ts) trace log so.2 c.count.result count)

pub returns-in-Refused-clause-refused : goal.returns-in-Refused-clause-refused
returns-in-Refused-clause-refused g c = grind arith
